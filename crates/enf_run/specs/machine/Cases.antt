-- A small policy under the sample signature, on which what `check` says can be checked by eye.
use Rattle.enf_data.specs.declared.terms.Term.TheVariants.{Var}
use Rattle.std.specs.Prelude.{[], ◌∷◌, codes, true, false}
use Rattle.enf_formula.specs.machine.Cases.{variable_x, interval_between}
use Rattle.enf_formula.specs.meaning.Satisfaction.{Atom, Eventually, Forall, Implies}
use Rattle.formula_reader.specs.meaning.Resolution.{Rule}
use Rattle.rank_check.specs.declared.rank_answers.Role.TheVariants.{Free, Caused, Suppressed}
use Rattle.rank_check.specs.meaning.Ranked.{Ranked}

-- `rule erase: forall u. request(u) -> eventually[0,30] delete(u);`
abbrev pub erase : Rule
erase = record {
  name = codes "erase";
  formula = Forall 12 (variable_x ∷ [])
      (Implies 33 (Atom 22 (record { 0 = 0 }) (Var variable_x ∷ []))
      (Eventually 36 (interval_between 0 30) (Atom 53 (record { 0 = 3 }) (Var variable_x ∷ []))));
  vars = codes "u" ∷ [];
  place = 0;
}

-- `delete` follows `request`
abbrev pub erase_ranked : Ranked
erase_ranked = record {
  ranks = 0 ∷ 0 ∷ 0 ∷ 1 ∷ [];
  roles = Free ∷ Free ∷ Free ∷ Caused ∷ [];
  horizon = 210;
  transparent = true;
}

-- no rule, and roles as they might be
abbrev pub other_ranked : Ranked
other_ranked = record {
  ranks = [];
  roles = Free ∷ Suppressed ∷ Caused ∷ [];
  horizon = 0;
  transparent = false;
}
