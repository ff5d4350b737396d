-- What made a value that is there.
use Rattle.formula_reader.proofs.Vocabulary.{refl, option_map, option_or, with_both}
use Rattle.std.specs.Prelude.{◌≡◌, Option, Some, None}

pub record MadeOfBoth {A B C : Type 0} (make : A → B → C) (a : Option A) (b : Option B) (c : C) : Type 0 where
  pub x : A
  pub y : B
  pub left : a ≡ Some x
  pub right : b ≡ Some y
  pub made : make x y ≡ c

pub both_from : {A B C : Type 0} (make : A → B → C) (a : Option A) (b : Option B) (c : C)
    → with_both make a b ≡ Some c → MadeOfBoth make a b c
both_from make None b c e = absurd (cc)
both_from make (Some x) None c e = absurd (cc)
both_from make (Some x) (Some y) c e = record { x = x; y = y; left = refl; right = refl; made = cc }

pub record MadeOfOne {A C : Type 0} (make : A → C) (a : Option A) (c : C) : Type 0 where
  pub x : A
  pub from : a ≡ Some x
  pub made : make x ≡ c

pub one_from : {A C : Type 0} (make : A → C) (a : Option A) (c : C) → option_map make a ≡ Some c
    → MadeOfOne make a c
one_from make None c e = absurd (cc)
one_from make (Some x) c e = record { x = x; from = refl; made = cc }

-- and of two that may be there, where none is
pub or_none : {A : Type 0} (a b : Option A) → option_or a b ≡ None → (a ≡ None) × (b ≡ None)
or_none None b e = (refl, e)
or_none (Some x) b e = absurd (cc)
