use Rattle.plan_terms.proofs.Vocabulary.{◌≡◌, ℕ, zero, suc, [], arith, refl, sym, ap, variable_x, name_q, here, none_in_nil, plan_cause_q_x, each_soon, soon_q_x, IsNumberedPlan, node_number}
use Rattle.plan_terms.proofs.Vocabulary.{CausePlan}
use Rattle.std.specs.List.Sorted.{IsStrictlySortedBy}
use Rattle.plan_terms.proofs.CaseLemmas.{known, told}
use Rattle.plan_terms.proofs.worked_cases.well_formed.Goals as goal

pub returns-clause-none : goal.returns-clause-none
returns-clause-none c = record {
  few = omega arith;
  each = tt;
  listed = refl;
  roles = λ name both. none_in_nil name both.0;
  fresh = tt;
  back = tt;
  small = omega arith;
}

numbered_soon : IsNumberedPlan each_soon
numbered_soon zero node is = let same : each_soon ≡ node = cc in ap node_number (sym same)
numbered_soon (suc zero) node is = let same : soon_q_x ≡ node = cc in ap node_number (sym same)
numbered_soon (suc (suc zero)) node is = let same : plan_cause_q_x ≡ node = cc in ap node_number (sym same)
numbered_soon (suc (suc (suc k))) node is = absurd (cc)

pub returns-clause-one : goal.returns-clause-one
unfolding IsStrictlySortedBy
returns-clause-one c = record {
  few = omega arith;
  each = (
    record {
      small = omega arith;
      numbered = numbered_soon;
      scoped = (((tt, tt), known), (tt, (here variable_x [], tt)));
      safe = ((tt, told, refl), (tt, tt));
      listed = (refl, (tt, tt));
      ends = (tt, ((omega arith, omega arith), (tt, tt)));
    },
    tt,
  );
  listed = refl;
  roles = λ name both. none_in_nil name both.1;
  fresh = (tt, tt);
  back = (refl, tt);
  small = omega arith;
}

pub returns-clause-guard_of_none : goal.returns-clause-guard_of_none
returns-clause-guard_of_none c = λ formed. let is = formed.listed in cc

pub returns-clause-not_numbered : goal.returns-clause-not_numbered
returns-clause-not_numbered c = λ formed. let same : ◌≡◌ {A = ℕ} 1 2 = formed.each.0.numbered 2 (CausePlan 1 5 name_q []) refl in omega arith

pub returns-clause-clash : goal.returns-clause-clash
returns-clause-clash c = λ clear. clear name_q (here name_q [], here name_q [])
