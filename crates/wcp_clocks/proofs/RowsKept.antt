-- Tables whose clocks keep their widths.
use Rattle.std.proofs.Common.{◌≡◌, ℕ, ◌<◌, List, length, refl, sym, ap, subst, ◌∙◌}
use Rattle.hb_clocks.specs.Rows.{widths_of}
use Rattle.hb_clocks.proofs.MadeRows.{made_within, wide_kept}
use Rattle.wcp_clocks.specs.StrictRows.{StrictTables, HasThread, HasLock, KeepsRoom, SameRoom, AreTables}

-- tables whose rows keep their widths are tables still
pub tables_kept : {width : ℕ} {zeros : List ℕ} {thread lock threads locks : List (List ℕ)}
    → AreTables width zeros thread lock → widths_of threads ≡ widths_of thread
    → widths_of locks ≡ widths_of lock → AreTables width zeros threads locks
tables_kept a same_thread same_lock = record {
  some = a.some;
  only_zeros = a.only_zeros;
  thread_wide = wide_kept _ _ _ same_thread a.thread_wide;
  lock_wide = wide_kept _ _ _ same_lock a.lock_wide;
}

-- and the same of those that are seen, where they are those within
pub seen_kept : {found now : StrictTables} {threads locks : List (List ℕ)} → found ≡ now
    → widths_of threads ≡ widths_of found.thread → widths_of locks ≡ widths_of found.lock
    → SameRoom now (record found { thread = threads; lock = locks })
seen_kept {found} {now} {threads} {locks} is same_thread same_lock =
    subst (λ (v : StrictTables). SameRoom v (record found { thread = threads; lock = locks })) is
    (record {
      width = refl;
      thread = same_thread;
      lock = same_lock;
      thread_room = refl;
      lock_room = refl;
    })

-- the rows that are named are among those that are read
module _ {found now : StrictTables} {zeros : List ℕ} {t : ℕ} {read : List (List ℕ)} (is : found ≡ now)
    (a : AreTables found.width zeros found.thread found.lock) where
  -- a thread that has a row is within the table
  pub thread_within : read ≡ found.thread → HasThread now t → t < length read
  thread_within e has = subst (λ (rows : List (List ℕ)). t < length rows) (sym e)
      (made_within (subst (λ (v : StrictTables). HasThread v t) (sym is) has).made a.some)

  -- a lock that has a row is within the table
  pub lock_within : read ≡ found.lock → HasLock now t → t < length read
  lock_within e has = subst (λ (rows : List (List ℕ)). t < length rows) (sym e)
      (made_within (subst (λ (v : StrictTables). HasLock v t) (sym is) has).made a.some)

-- rows that stay as they were have the same room
pub room_same : (c : StrictTables) → SameRoom c c
room_same c = record { width = refl; thread = refl; lock = refl; thread_room = refl; lock_room = refl }

-- the same room is the same both ways
pub room_back : {a b : StrictTables} → SameRoom a b → SameRoom b a
room_back p = record {
  width = sym p.width;
  thread = sym p.thread;
  lock = sym p.lock;
  thread_room = sym p.thread_room;
  lock_room = sym p.lock_room;
}

-- two changes that each keep the room keep it together
pub room_then : {a b c : StrictTables} → SameRoom a b → SameRoom b c → SameRoom a c
room_then p q = record {
  width = q.width ∙ p.width;
  thread = q.thread ∙ p.thread;
  lock = q.lock ∙ p.lock;
  thread_room = q.thread_room ∙ p.thread_room;
  lock_room = q.lock_room ∙ p.lock_room;
}

-- a clock that was made stays
pub thread_kept : {a b : StrictTables} → SameRoom a b → (t : ℕ) → HasThread a t → HasThread b t
thread_kept p t has =
    record { made = record { wide = ap (λ f. f t) p.thread ∙ has.made.wide ∙ sym p.width } }

-- a lock that has a row keeps it where the room is the same
pub lock_kept : {a b : StrictTables} → SameRoom a b → (l : ℕ) → HasLock a l → HasLock b l
lock_kept p l has = record { made = record { wide = ap (λ f. f l) p.lock ∙ has.made.wide ∙ sym p.width } }

-- the same room is room that is kept
pub room_kept : {a b : StrictTables} → SameRoom a b → KeepsRoom a b
room_kept p = record { width = p.width; thread = thread_kept p; lock = lock_kept p }
