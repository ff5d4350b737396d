-- Small definitions and rules, on which unfolding can be checked by eye.
use Rattle.count_guard.specs.declared.counting.CountKind.TheVariants.{AtLeast}
use Rattle.count_guard.specs.machine.Cases.{case_variable, atom_of_p, some_q_of}
use Rattle.definitions.specs.meaning.DefinedNames.{Definition}
use Rattle.enf_data.specs.declared.events.NameId.{NameId}
use Rattle.enf_data.specs.declared.terms.Term.{Term}
use Rattle.enf_data.specs.declared.terms.Term.TheVariants.{Var}
use Rattle.enf_formula.specs.meaning.Satisfaction.{Formula, Atom, And}
use Rattle.std.specs.Prelude.{ℕ, List, [], ◌∷◌, None, Some}

-- the defined names: one for p(x), one over it, one that counts, and one over a name that is defined after it
abbrev pub name_one : NameId
name_one = record { 0 = 2 }

abbrev pub name_over : NameId
name_over = record { 0 = 3 }

abbrev pub name_many : NameId
name_many = record { 0 = 4 }

abbrev pub name_too_soon : NameId
name_too_soon = record { 0 = 5 }

-- an atom of one of them, of variables with these numbers
abbrev pub defined_atom : (at : ℕ) → NameId → List Term → Formula
defined_atom at name terms = Atom at name terms

abbrev pub variable_of_rule : ℕ → Term
variable_of_rule number = Var (case_variable number)

-- define one(x): p(x)
abbrev pub defines_one : Definition
defines_one = record { name = name_one; params = case_variable 0 ∷ []; counts = None; body = atom_of_p 3 0 }

-- define over(x,y): one(y) and exists z. q(x,z)
abbrev pub defines_over : Definition
defines_over = record {
  name = name_over;
  params = case_variable 0 ∷ case_variable 1 ∷ [];
  counts = None;
  body = And 3 (defined_atom 3 name_one (variable_of_rule 1 ∷ [])) (some_q_of 3 0 2);
}

-- define many() atleast 2 x: one(x)
abbrev pub defines_many : Definition
defines_many = record {
  name = name_many;
  params = [];
  counts = Some (record { kind = AtLeast; k = 2; counted = case_variable 0 ∷ [] });
  body = defined_atom 3 name_one (variable_of_rule 0 ∷ []);
}

-- define too_soon(x): one(x), before one is defined
abbrev pub defines_too_soon : Definition
defines_too_soon = record {
  name = name_too_soon;
  params = case_variable 0 ∷ [];
  counts = None;
  body = defined_atom 3 name_one (variable_of_rule 0 ∷ []);
}
