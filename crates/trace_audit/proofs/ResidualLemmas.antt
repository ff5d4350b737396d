-- What is asked is met where its denial is false, and what two residuals ask for together.
use Rattle.trace_audit.proofs.Vocabulary.{◌≡◌, ℕ, ◌<◌, ◌≤◌, Bool, ◌+◌, List, [], ◌∷◌, ◌++◌, length, take, get_or, sym, ap, ◌∙◌, subst, arith, ⊎_elim, Vec, Global, ◌↔◌, AllByRecursion, cases_lt}
use Rattle.trace_audit.proofs.Vocabulary.{take_more, AllByRecursion-append, Valuation, Step, VarId, Formula, Classically, Sat, IsStable, formula_for, Plan, CausePlan, SuppressPlan, Both, Either}
use Rattle.trace_audit.proofs.Vocabulary.{TestOr, Guarded, EventuallyPlan, AlwaysPlan, UntilPlan, NextPlan, plan_of, OperatorAsks, ResidualCanGoOn, CanLinkGoOn, CanRowGoOn, IsAllOf, IsAnyOf, IsHung}
use Rattle.trace_audit.proofs.Vocabulary.{LinkMeans, LinksMean, Means, RowMeans, Link, hidden-the_row-Link-0, Residual, Row_of-Link, end_of-Link, more_of-Link, items-the_row-Link}
use Rattle.trace_audit.proofs.Vocabulary.{items_hidden-the_row-Link-0}
use Rattle.std.specs.Prelude.{IsTrue}
use Rattle.trace_audit.specs.declared.residuals.Link.TheVariants as link
use Rattle.trace_audit.specs.declared.residuals.Residual.TheVariants as stored

stable_less : (a b : ℕ) → Classically (a < b) → a < b
stable_less a b twice = ⊎_elim (λ less. less) (λ not_less. absurd (twice (λ less. omega (arith, not_less, less)))) (cases_lt a b)

stable_most : (a b : ℕ) → Classically (a ≤ b) → a ≤ b
stable_most a b twice = ⊎_elim (λ more. absurd (twice (λ most. omega (arith, more, most)))) (λ most. most) (cases_lt b a)

abbrev pub IsClassical : Type 0
IsClassical = (trace : List Step) (i : ℕ) (v : Valuation) (f : Formula) → IsStable (Sat trace i v f)

abbrev rest_of : Link → Residual
rest_of (link.Both rest) = rest
rest_of (link.Either rest) = rest

module _ (classical : IsClassical) (trace : List Step) (from : ℕ) where
  stable_asks : (plan : Plan) (v : Valuation) (low high : ℕ) → Classically (OperatorAsks trace from plan v low high)
      → OperatorAsks trace from plan v low high
  stable_asks (CausePlan node place name terms) v low high twice = twice (λ asks. asks)
  stable_asks (SuppressPlan node place name terms) v low high twice = twice (λ asks. asks)
  stable_asks (Both node left right) v low high twice = twice (λ asks. asks)
  stable_asks (Either node left right) v low high twice = twice (λ asks. asks)
  stable_asks (TestOr node guard test body) v low high twice = twice (λ asks. asks)
  stable_asks (Guarded node xs guard test body) v low high twice = twice (λ asks. asks)
  stable_asks (EventuallyPlan node place a b body) v low high twice = λ never. twice (λ met. met never)
  stable_asks (AlwaysPlan node place a b body) v low high twice = λ j left.
      classical trace j v (formula_for body) (λ fails. twice (λ all. fails (all j left)))
  stable_asks (UntilPlan node place a b left right) v low high twice = λ never. twice (λ met. met never)
  stable_asks (NextPlan node place b body) v low high twice = (
    stable_less from (length trace) (λ no. twice (λ met. no met.0)),
    stable_most _ high (λ no. twice (λ met. no met.1)),
    classical trace from v (formula_for body) (λ fails. twice (λ met. fails met.2)),
  )

  -- what two links or more ask for is met where its denial is false, if that is so for each of them
  abbrev ArePartsStable : {n : _} → Row_of-Link n → Type 0
  ArePartsStable end_of-Link = Unit {0}
  ArePartsStable (more_of-Link one row) =
      (Classically (Means trace from (rest_of one)) → Means trace from (rest_of one)) × ArePartsStable row

  stable_link : (one : Link) → (Classically (Means trace from (rest_of one)) → Means trace from (rest_of one)) → (P : Type 0)
      → (Classically P → P) → Classically (LinkMeans trace from P one) → LinkMeans trace from P one
  stable_link (link.Both rest) of_rest P of_first twice =
      (of_first (λ no. twice (λ met. no met.0)), of_rest (λ no. twice (λ met. no met.1)))
  stable_link (link.Either rest) of_rest P of_first twice = λ not_first not_rest. twice (λ met. met not_first not_rest)

  stable_row : {n : _} (row : Row_of-Link n) → ArePartsStable row → (P : Type 0) → (Classically P → P)
      → Classically (RowMeans trace from P row) → RowMeans trace from P row
  stable_row end_of-Link parts P of_first twice = of_first twice
  stable_row (more_of-Link one row) parts P of_first twice =
      stable_row row parts.1 (LinkMeans trace from P one) (stable_link one parts.0 P of_first) twice

  mutual
    pub stable : (rest : Residual) → Classically (Means trace from rest) → Means trace from rest
    stable stored.Met twice = tt
    stable stored.Failed twice = twice (λ means. means)
    stable (stored.Waits w) twice = stable_asks (plan_of w.node.now) w.valuation w.low w.high twice
    stable (stored.Chain' shape links) twice = stable_row links (stable_parts links) (Unit {0}) (λ never. tt) twice

    stable_part : (one : Link) → Classically (Means trace from (rest_of one)) → Means trace from (rest_of one)
    stable_part (link.Both rest) = stable rest
    stable_part (link.Either rest) = stable rest

    stable_parts : {n : _} (row : Row_of-Link n) → ArePartsStable row
    stable_parts end_of-Link = tt
    stable_parts (more_of-Link one row) = (stable_part one, stable_parts row)

-- ---- links

pub both_ways : (P Q R : Type 0) → P ↔ Q → Q ↔ R → P ↔ R
both_ways P Q R first second = (λ p. second.0 (first.0 p), λ r. first.1 (second.1 r))

module _ (trace : List Step) (from : ℕ) where
  row_listed : {n : _} (P : Type 0) (row : Row_of-Link n)
      → RowMeans trace from P row ↔ LinksMean trace from P (items-the_row-Link n row)
  row_listed P end_of-Link = (λ met. met, λ met. met)
  row_listed P (more_of-Link one row) = row_listed (LinkMeans trace from P one) row

  -- a chain asks for what its links ask for
  pub chain_means : (links : Vec Link Global)
      → Means trace from (stored.Chain links) ↔ LinksMean trace from (Unit {0}) links.items
  chain_means links = subst (λ items. Means trace from (stored.Chain links) ↔ LinksMean trace from (Unit {0}) items)
      (items_hidden-the_row-Link-0 links) (row_listed (Unit {0}) (hidden-the_row-Link-0 links))

  pub link_same : (P Q : Type 0) → P ↔ Q → (one : Link) → LinkMeans trace from P one ↔ LinkMeans trace from Q one
  link_same P Q same (link.Both rest) = (λ met. (same.0 met.0, met.1), λ met. (same.1 met.0, met.1))
  link_same P Q same (link.Either rest) = (
    λ met no_first no_rest. met (λ p. no_first (same.0 p)) no_rest,
    λ met no_first no_rest. met (λ q. no_first (same.1 q)) no_rest,
  )

  pub links_more : (P : Type 0) (links : List Link) (one : Link)
      → LinksMean trace from P (links ++ one ∷ []) ↔ LinkMeans trace from (LinksMean trace from P links) one
  links_more P [] one = (λ met. met, λ met. met)
  links_more P (first ∷ links) one = links_more (LinkMeans trace from P first) links one

  -- what is met so far, with one link more
  pub link_more : (met : Bool) (links : List Link) (k : ℕ) (one : Link) → k < length links → one ≡ get_or links k one
      → IsTrue met ↔ LinksMean trace from (Unit {0}) (take k links) → (more : Bool)
      → IsTrue more ↔ LinkMeans trace from (IsTrue met) one
      → IsTrue more ↔ LinksMean trace from (Unit {0}) (take (k + 1) links)
  link_more met links k one within at so_far more told =
      subst (λ taken. IsTrue more ↔ LinksMean trace from (Unit {0}) taken)
      (sym (take_more links k one within ∙ ap (λ x. take k links ++ x ∷ []) (sym at)))
      (both_ways _ _ _ told (both_ways _ _ _
      (link_same (IsTrue met) (LinksMean trace from (Unit {0}) (take k links)) so_far one)
      (let m = links_more (Unit {0}) (take k links) one in (m.1, m.0))))

module _ (guards : List (Formula × List VarId)) where
  row_can : {n : _} (row : Row_of-Link n)
      → CanRowGoOn guards row ↔ AllByRecursion (CanLinkGoOn guards) (items-the_row-Link n row)
  row_can end_of-Link = (λ can. tt, λ can. tt)
  row_can (more_of-Link one row) =
      let behind = row_can row in (λ can. (can.0, behind.0 can.1), λ can. (can.0, behind.1 can.1))

  pub chain_can : (links : Vec Link Global)
      → ResidualCanGoOn guards (stored.Chain links) ↔ AllByRecursion (CanLinkGoOn guards) links.items
  chain_can links = subst (λ items. ResidualCanGoOn guards (stored.Chain links) ↔ AllByRecursion (CanLinkGoOn guards) items)
      (items_hidden-the_row-Link-0 links) (row_can (hidden-the_row-Link-0 links))

pub hung_on_chain : (links after : Vec Link Global) (one : Link) → after.items ≡ links.items ++ one ∷ []
    → IsHung (stored.Chain links) one (stored.Chain after)
hung_on_chain links after one more = record {
  means = λ trace from. both_ways _ _ _ (chain_means trace from after)
      (subst (λ items. LinksMean trace from (Unit {0}) items ↔ LinkMeans trace from (Means trace from (stored.Chain links)) one) (sym more)
      (both_ways _ _ _ (links_more trace from (Unit {0}) links.items one)
      (link_same trace from _ _ (let m = chain_means trace from links in (m.1, m.0)) one)));
  can = λ guards can_links can_one. (chain_can guards after).1 (subst (AllByRecursion (CanLinkGoOn guards)) (sym more)
      (AllByRecursion-append (CanLinkGoOn guards) links.items (one ∷ []) ((chain_can guards links).0 can_links) (can_one, tt)));
}

pub hung_on_one : (rest : Residual) (after : Vec Link Global) (one : Link) → after.items ≡ link.Both rest ∷ one ∷ []
    → IsHung rest one (stored.Chain after)
hung_on_one rest after one two = record {
  means = λ trace from. both_ways _ _ _ (chain_means trace from after)
      (subst (λ items. LinksMean trace from (Unit {0}) items ↔ LinkMeans trace from (Means trace from rest) one) (sym two)
      (link_same trace from (Unit {0} × Means trace from rest) (Means trace from rest) (λ met. met.1, λ met. (tt, met)) one));
  can = λ guards can_rest can_one. (chain_can guards after).1
      (subst (AllByRecursion (CanLinkGoOn guards)) (sym two) (can_rest, (can_one, tt)));
}

-- ---- both of two

pub all_turned : (left right rest : Residual) → IsAllOf left right rest → IsAllOf right left rest
all_turned left right rest both = record {
  means = λ trace from. let m = both.means trace from in
      (λ met. let parts = m.0 met in (parts.1, parts.0), λ parts. m.1 (parts.1, parts.0));
  can = λ guards l r. both.can guards r l;
}

-- ---- one of two

pub any_turned : (left right rest : Residual) → IsAnyOf left right rest → IsAnyOf right left rest
any_turned left right rest one = record {
  means = λ trace from. let m = one.means trace from in
      (λ met no_right no_left. m.0 met no_left no_right, λ met. m.1 (λ no_left no_right. met no_right no_left));
  can = λ guards l r. one.can guards r l;
}

pub any_of_failed : IsClassical → (right : Residual) → IsAnyOf stored.Failed right right
any_of_failed classical right = record {
  means = λ trace from. (
    λ m not_left not_right. not_right m,
    λ m. stable classical trace from right (λ no. m (λ failed. failed) no),
  );
  can = λ guards l r. r;
}

pub any_with_failed : IsClassical → (left : Residual) → IsAnyOf left stored.Failed left
any_with_failed classical left = record {
  means = λ trace from. (
    λ m not_left not_right. not_left m,
    λ m. stable classical trace from left (λ no. m no (λ failed. failed)),
  );
  can = λ guards l r. l;
}
