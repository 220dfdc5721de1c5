-- Document 01, 'Metrics and soft bits', the inside of `lse`: f32 throughout, rounded at each operation.
use Rattle.std.specs.Prelude.{ℕ, ◌+◌, ◌*◌, ◌-◌, true, pos, Float}
use Rattle.std.specs.Float.{inf, binary32}
use Rattle.std.specs.Float.Ieee.{of_int, neg, add, sub, mul, div, lt, eq}
use Rattle.util.specs.Choose.{choose}
use Rattle.ieee.specs.Whole.{run}

-- the whole numbers k and -k as f32
unfoldable pub float32 : ℕ → Float
unfolding of_int
float32 k = of_int binary32 (pos k)

unfoldable pub negative : ℕ → Float
unfolding float32 neg
negative k = neg (float32 k)

-- p = 1 + (y·p)/k
unfoldable pub exp_step : Float → Float → Float → Float
exp_step y p k = add binary32 (float32 1) (div binary32 (mul binary32 y p) k)

unfoldable pub squared : Float → Float
squared p = mul binary32 p p

-- exp(t), t ≤ 0: below -16 it is 0; else y = t/16, p = 1, for k = 10 to 1 the step, then p squared four times
unfoldable pub exp_of : Float → Float
exp_of t =
    choose (lt t (negative 16)) (float32 0)
    (squared (squared (squared (squared (run (exp_step (div binary32 t (float32 16))) (float32 1) (λ i. float32 (10 - i)) 10)))))

-- r = 1/(2k+1) + q·r
unfoldable pub ln_step : Float → Float → Float → Float
ln_step q r odd = add binary32 (div binary32 (float32 1) odd) (mul binary32 q r)

-- q = s·s, r = 1/17, for k = 7 to 0 the step; answer (2·s)·r
unfoldable pub ln_from : Float → Float
ln_from s =
    mul binary32 (mul binary32 (float32 2) s) (run (ln_step (mul binary32 s s)) (div binary32 (float32 1) (float32 17)) (λ i. float32 (2 * (7 - i) + 1)) 8)

-- ln_1p(u), 0..1: s = u/(2+u)
unfoldable pub ln1p_of : Float → Float
ln1p_of u = ln_from (div binary32 u (add binary32 (float32 2) u))

abbrev pub minus_infinity : Float
minus_infinity = inf true

-- the greater one and what the other adds to it
unfoldable pub joined : Float → Float → Float
joined hi lo = add binary32 hi (ln1p_of (exp_of (sub binary32 lo hi)))

-- `lse`: ln(e^a + e^b), minus infinity adding nothing
unfoldable pub lse_of : Float → Float → Float
lse_of a b =
    choose (eq a minus_infinity) b (choose (eq b minus_infinity) a (choose (lt b a) (joined a b) (joined b a)))
