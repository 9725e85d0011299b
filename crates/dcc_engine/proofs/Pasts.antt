-- A run, looked back over.
use Rattle.std.proofs.Common.{List, [], ◌∷◌}
use Rattle.dcc_engine.specs.Asks.{Turn}
use Rattle.dcc_engine.specs.Engines.{EngineView}
use Rattle.dcc_engine.specs.Isolation.{before_of}
use Rattle.dcc_engine.specs.inner.Turns.{IsNext}

-- each event is answered by what was before it
abbrev pub IsPast : EngineView → List Turn → Type 0
IsPast engine [] = Unit {0}
IsPast engine (turn ∷ past) = IsNext engine.setting (before_of engine past) turn × IsPast engine past
