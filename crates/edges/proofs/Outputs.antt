-- SplitMix64's published outputs, which the program runs too, by computing. Assumes nothing.
use Rattle.std.proofs.Common.{◌≡◌, [], ◌∷◌, refl}
use Rattle.util.specs.SplitMix.{xor_shift, next_state, output, first_output, outputs}

pub published-1234567 : outputs 5 1234567
    ≡ 6457827717110365317 ∷ 3203168211198807973 ∷ 9817491932198370423 ∷ 4593380528125082431 ∷ 16408922859458223821 ∷ []
unfolding outputs first_output output next_state xor_shift
published-1234567 = refl

pub published-0 : outputs 3 0 ≡ 16294208416658607535 ∷ 7960286522194355700 ∷ 487617019471545679 ∷ []
unfolding outputs first_output output next_state xor_shift
published-0 = refl
