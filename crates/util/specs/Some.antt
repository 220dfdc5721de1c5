-- Whether some entry of a list passes a test, by std's word: what a refusal asks of a lent list.
use Rattle.std.specs.Prelude.{Bool, List}
use Rattle.std.specs.List.{list_any}

abbrev pub some_of : {A : Type 0} → (A → Bool) → List A → Bool
some_of test list = list_any test list
