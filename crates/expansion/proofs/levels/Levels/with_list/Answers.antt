use mathlib.Core.Path.{refl}
use Rattle.expansion.proofs.LevelLaws.{list_levels_lem}
use Rattle.expansion.proofs.levels.Levels.with_list.Goals as goal

pub returns : goal.returns
returns c = list_levels_lem _ _ c.if-self-eq-LEVEL_LIMIT.false refl refl
