-- `manager::serving::whole_malloc` meets its contract: the pool's answer, and the figures where it is a buffer.
use Rattle.manager.proofs.Served.{granted-fits, serves-granted, serves-other}
use Rattle.manager.proofs.serving.whole_malloc.Goals as goal

pub grow-requires : goal.grow-requires
grow-requires c =
    let a = c.args in
    granted-fits a.m.now c.requires.0 a.bytes a.size a.stream _ _ _ _ c.malloc-called.ensures _ _ c.in-Allocated.is c.requires.1

pub returns-in-Allocated : goal.returns-in-Allocated
returns-in-Allocated c =
    let a = c.args in
    serves-granted a.m.now c.requires.0 a.bytes a.size a.stream _ _ _ _ c.malloc-called.ensures _ _ c.in-Allocated.is _ c.grow.ensures

pub returns-in_default : goal.returns-in_default
returns-in_default c =
    let a = c.args in
    serves-other a.m.now c.requires.0 a.bytes a.size a.stream _ _ _ _ c.malloc-called.ensures c.in_default.not-Allocated
