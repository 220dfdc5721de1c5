-- The loop's invariant: what is left to trace, below the word so far, makes up the whole (`Tracing`). Assumes nothing.
use Prim.Native.Nat.{◌-◌, ◌^◌, ◌≤◌, ◌<◌}
use Rattle.traceback.proofs.Tracing.{Tracing}
use Rattle.pass.specs.Areas.{packed}
use Rattle.traceback.proofs.trace.Given as goal

abbrev pub invariant-loop-j : goal.invariant-loop-j
invariant-loop-j l = (l.j ≤ l.steps) × (l.s < 16384) × (l.word < 2 ^ (l.steps - l.j)) × Tracing 16384 (packed l.decisions) l.steps l.end l.word l.s l.j
