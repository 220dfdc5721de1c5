-- `util::crc16` meets its contract: the fold of the step is the definition. Assumes nothing.
use Rattle.std.proofs.Common.{rules, ◌∙◌}
use Rattle.std.proofs.lemmas.Iterator.{YieldsList-from_slice}
use Rattle.std.proofs.lemmas.Iterator.Consumers.{fold_from_yields_List}
use Rattle.util.specs.Crc.{crc_step}
use Rattle.util.proofs.Folded.{fold_crc_step}
use Rattle.util.proofs.crc16.Goals as goal

pub returns : goal.returns
returns c =
    fold_from_yields_List _ crc_step c.args.init _ c.fold.ensures.ran (YieldsList-from_slice c.args.bits.now cc) (λ a x b q k. search rules)
    ∙ fold_crc_step c.args.init c.args.bits.now
