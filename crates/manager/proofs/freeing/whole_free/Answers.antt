-- `manager::freeing::whole_free` meets its contract: the pool's answer, and the figure where it is a size.
use Rattle.manager.proofs.Frees.{freed-held, frees-done, frees-other}
use Rattle.manager.proofs.freeing.whole_free.Goals as goal

pub overflow_sub-m : goal.overflow_sub-m
overflow_sub-m c =
    let a = c.args in
    freed-held a.m.now c.requires a.address.0 _ _ _ _ c.free-called.ensures _ _ c.in-Freed.is

pub returns-in-Freed : goal.returns-in-Freed
returns-in-Freed c =
    let a = c.args in
    frees-done a.m.now c.requires a.address.0 _ _ _ _ c.free-called.ensures _ _ c.in-Freed.is

pub returns-in_default : goal.returns-in_default
returns-in_default c =
    let a = c.args in
    frees-other a.m.now c.requires a.address.0 _ _ _ _ c.free-called.ensures c.in_default.not-Freed
