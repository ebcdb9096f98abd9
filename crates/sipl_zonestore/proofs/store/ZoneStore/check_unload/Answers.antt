use Rattle.sipl_zonestore.proofs.Editing.{checked-unload, store_of}
use Rattle.sipl_zonestore.proofs.store.ZoneStore.check_unload.Goals as goal

pub returns : goal.returns
returns c =
    rw (← c.self.view_is) (checked-unload (store_of c.self.inside.apexes.items c.self.inside.records c.self.inside.max_records c.self.inside.looks) c.args.apex.now c.check_unload.result c.self.invariant.consistent.numbered.last (rw c.deref.ensures.value at c.check_unload.ensures))
