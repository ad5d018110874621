-- What the engine of a session has of its beginning. The contracts of private functions alone cite this.
use Rattle.std.specs.Prelude.{◌≡◌}
use Rattle.lmn_schedule.specs.declared.engine.Engine.{Engine}
use Rattle.lmn_schedule.specs.Held.{EngineCanTurn}
use Rattle.lmn_store_web.specs.WebHeaps.{KeptWeb, heap_of}
use Rattle.lmn_debug.specs.declared.beginning.Beginning.{Beginning}

-- it goes over the beginning's plain, by its closure and within its size
abbrev pub IsEngineOf : {F A M : Type 0} → Beginning F → Engine KeptWeb F A M → Type 0
IsEngineOf from engine = (engine.plain.now ≡ from.plain.now) × (engine.chooser.f ≡ from.choose) × (engine.size ≡ from.size)

-- and it can turn
abbrev pub CanGoOn : {F A M : Type 0} → Beginning F → Engine KeptWeb F A M → Type 0
CanGoOn from engine = EngineCanTurn (heap_of engine.machine.store) from.plain.now.rules engine.codes from.size
