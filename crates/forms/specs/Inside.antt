-- Inside: what the functions behind the public entry take and leave. The entry's promise names none of this.
use Rattle.std.specs.Prelude.{◌≡◌, ℕ, ◌*◌, ◌≤◌, Bool, List, Float}
use Rattle.interleave.specs.Interleave.{symbols_of}
use Rattle.forms.specs.Burst.{Received, received, metrics_out, soft_out}
use Rattle.forms.specs.declared.Burst.{Burst}

-- t terms, n counts, w of the work area, m metrics and b soft bits are those of one burst
pub record Lent (t n w m b : ℕ) : Type 0 where
  pub few : n ≤ 2048
  pub enough : symbols_of b ≡ n
  pub terms : t ≡ 260 * n
  pub work : w ≡ 32 * n
  pub metrics : m ≡ 32 * n

-- metrics and soft bits of the n symbols with these values, of which b are asked
pub record Made (symbols : Bool) (values : ℕ → ℕ → Float) (n b : ℕ) (metrics soft : List Float) : Type 0 where
  pub all : metrics ≡ metrics_out symbols n values
  pub cut : soft ≡ soft_out symbols n b values

-- what was received, as the definitions have it
abbrev pub heard : Burst → Received
heard b = received b.mode b.kind b.layout b.window b.terms.now b.blanked.now
