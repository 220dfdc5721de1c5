-- The CRC as std's `fold`. Assumes nothing.
use Rattle.std.specs.Prelude.{◌≡◌, ℕ, List, [], ◌∷◌, fold, refl}
use Rattle.util.specs.Crc.{crc_step, crc_of}

pub fold_crc_step : (crc : ℕ) (bits : List ℕ) → fold crc_step crc bits ≡ crc_of crc bits
unfolding crc_of
fold_crc_step crc [] = refl
fold_crc_step crc (b ∷ bs) = fold_crc_step (crc_step crc b) bs
