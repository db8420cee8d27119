use Rattle.std.proofs.Common.{◌≡◌, ◌-◌, List, None, sym, ap₂, ◌∙◌, vec_len, vec_capacity, arith}
use Rattle.std.specs.List.{position}
use Rattle.event_core.specs.declared.ids.ThreadId.{ThreadId}
use Rattle.access_check.specs.declared.last_accesses.LastAccess.{LastAccess}
use Rattle.access_check.specs.LastAccesses.{LastList, is_of}
use Rattle.access_check.proofs.IsReadyForProperties.{room_left}
use Rattle.access_check.proofs.last_accesses.put.Goals as goal

pub push_reserved-requires : goal.push_reserved-requires
push_reserved-requires c =
    let t = c.args.last.thread in
    let items : List LastAccess = c.args.lasts.now.items in
    let found : position (is_of t) items ≡ None
    = ap₂ (λ (u : ThreadId) (ps : List LastAccess). position (is_of u) ps) (sym c.thread.ensures)
    (sym c.deref.ensures.value)
    ∙ (sym c.find.ensures ∙ c.in-None.is) in
    let list : LastList = record {
      items = items;
      room = vec_capacity c.args.lasts.now - vec_len c.args.lasts.now;
      reserved = vec_capacity c.args.lasts.now;
    } in
    let left = room_left t list found c.requires in
    omega (arith, left)
