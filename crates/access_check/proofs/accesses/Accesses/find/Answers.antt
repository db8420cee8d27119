use Rattle.access_check.proofs.accesses.Accesses.find.Goals as goal

pub returns-in-Load : goal.returns-in-Load
returns-in-Load g c = rw (← c.self.view_is, c.in-Load.is, ← c.deref.ensures.value) c.verdict_at_var.ensures

pub returns-in-Store : goal.returns-in-Store
returns-in-Store g c =
    rw (← c.self.view_is, c.in-Store.is, ← c.deref-in-Store.ensures.value) c.verdict_at_var-in-Store.ensures
