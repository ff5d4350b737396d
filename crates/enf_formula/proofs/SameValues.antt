-- Of two terms that have the same value.
use Rattle.enf_formula.proofs.Vocabulary.{Value, ap, sym, ◌∙◌, AreSameValues}
use Rattle.std.specs.Prelude.{◌≡◌, Option, None, Some}

pub AreSameValues-some : (a b : Option Value) (value : Value) → AreSameValues a b → a ≡ Some value → b
    ≡ Some value
AreSameValues-some None b value same is = absurd same
AreSameValues-some (Some a) None value same is = absurd same
AreSameValues-some (Some a) (Some b) value same is = ap Some (sym same) ∙ is

pub AreSameValues-sym : (a b : Option Value) → AreSameValues a b → AreSameValues b a
AreSameValues-sym None b same = absurd same
AreSameValues-sym (Some a) None same = absurd same
AreSameValues-sym (Some a) (Some b) same = sym same
