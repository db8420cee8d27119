-- The last accesses of a variable, loads and stores: what the verdict on an access reads in them, and what
-- the access makes of them.
use Rattle.std.specs.Prelude.{ℕ, List, [], ◌∷◌, Option}
use Rattle.event_core.specs.declared.ids.ThreadId.{ThreadId}
use Rattle.event_core.specs.declared.events.AccessKind.{AccessKind}
use Rattle.event_core.specs.declared.events.AccessKind.TheVariants.{Read, Write}
use Rattle.event_core.specs.declared.replies.Verdict.{Verdict}
use Rattle.event_core.specs.declared.replies.Verdict.TheVariants.{Clear, Racy}
use Rattle.access_check.specs.declared.last_accesses.LastAccess.{LastAccess}
use Rattle.access_check.specs.declared.variable_accesses.VariableAccesses.{VariableAccesses}
use Rattle.access_check.specs.LastAccesses.{LastList, no_last_accesses, later, latest, put}

-- no thread has accessed the variable
abbrev pub no_accesses : VariableAccesses
no_accesses = record { loads = no_last_accesses; stores = no_last_accesses }

-- the list of that kind
abbrev pub of_kind : AccessKind → VariableAccesses → LastList
of_kind Read ts = ts.loads
of_kind Write ts = ts.stores

-- the accesses of that kind that are kept
abbrev pub kept : AccessKind → VariableAccesses → List LastAccess
kept k ts = (of_kind k ts).items

-- the latest access that races with one of that kind by the thread t, with the clock of what is ordered
-- before it
abbrev pub latest_racing : ThreadId → AccessKind → (ℕ → ℕ) → VariableAccesses → Option ℕ
latest_racing t Read clock ts = latest t clock ts.stores.items
latest_racing t Write clock ts = later (latest t clock ts.loads.items) (latest t clock ts.stores.items)

-- what is kept of the loads, and of the stores, after an access on which there was that verdict: a store that
-- does not race is kept alone
abbrev pub loads_after : Verdict → AccessKind → LastAccess → VariableAccesses → List LastAccess
loads_after v Read p ts = put p ts.loads.items
loads_after Clear Write p ts = []
loads_after (Racy i) Write p ts = ts.loads.items

abbrev pub stores_after : Verdict → AccessKind → LastAccess → VariableAccesses → List LastAccess
stores_after v Read p ts = ts.stores.items
stores_after Clear Write p ts = p ∷ []
stores_after (Racy i) Write p ts = put p ts.stores.items

-- what is kept of the accesses of kind m after one of kind k
abbrev pub kept_after : Verdict → AccessKind → LastAccess → AccessKind → VariableAccesses → List LastAccess
kept_after v k p Read ts = loads_after v k p ts
kept_after v k p Write ts = stores_after v k p ts
