-- `frame::crc` meets its contract: each return by the tests that led there. Assumes nothing.
use Rattle.frame.proofs.Named.{kind-named}
use Rattle.frame.proofs.crc.Goals as goal

pub crc_init-requires : goal.crc_init-requires
crc_init-requires c = kind-named _ _ c.in_ok-named.ensures.1.1
