-- Ranks by rounds, and that they end: a chain of as many edges as there are names returns to one of them.
use Rattle.rank_check.proofs.Vocabulary.{◌≡◌, ◌⊎◌, ℕ, zero, suc, ◌+◌, ◌<◌, ◌≤◌, Bool, true, false, eqb, ◌||◌, List, [], ◌∷◌, ◌++◌, length, get_or, replicate, set, take, refl, sym, ap, subst, inl, inr}
use Rattle.rank_check.proofs.Vocabulary.{⊎_elim, arith, ◌∙◌, AllByRecursion, list_any, cases_lt, eqb-true, ne_eqb, get_or-set_at, take-append_seam, get_or-replicate, get_or-set_other, get_or_past}
use Rattle.rank_check.proofs.Vocabulary.{length-replicate, IsDistinct-cons, length-le_from_distinct_below, NameId, same_name, EdgesLead, IsOnCycle, EndsIn, IsRank, IsRankWithin, greatest, rank_in}
use Rattle.std.specs.List.{IsDistinct}
use Rattle.rank_check.proofs.ClosureLemmas.{below_or_there}

pub greatest-le : (most : ℕ) (xs : List ℕ) → ((i : ℕ) → get_or xs i 0 ≤ most) → greatest xs ≤ most
greatest-le most [] each = omega arith
greatest-le most (x ∷ xs) each = omega (arith, each 0, greatest-le most xs (λ i. each (suc i)))

weaker : (P Q : ℕ → Type 0) → ((n : ℕ) → P n → Q n) → (xs : List ℕ) → AllByRecursion P xs → AllByRecursion Q xs
weaker P Q so [] all = tt
weaker P Q so (x ∷ xs) all = (so x all.0, weaker P Q so xs all.1)

or_cases : (a b : Bool) → a || b ≡ true → (a ≡ true) ⊎ (b ≡ true)
or_cases true b is = inl refl
or_cases false b is = inr is

none_distinct : IsDistinct eqb []
unfolding IsDistinct
none_distinct = tt

-- all ranks are 0 at first
pub zeros : (count i : ℕ) → get_or (replicate count zero) i zero ≡ zero
zeros count i = ⊎_elim
    (λ (inside : i < count). get_or-replicate count i zero zero inside)
    (λ (past : count ≤ i). get_or_past (replicate count zero) i zero (omega (arith, length-replicate count zero)))
    (cases_lt i count)

-- what a slice that was lent leaves
pub written : (len : ℕ) (lent rest : List ℕ) → len ≡ length lent → take len (lent ++ rest) ≡ lent
written len lent rest same = ap (λ n. take n (lent ++ rest)) same ∙ take-append_seam lent rest

module _ (E : NameId → NameId → Type 0) where
  -- a number of a name from which a chain leads to the name
  abbrev IsBefore : NameId → ℕ → Type 0
  IsBefore to n = (name : NameId) × (name.0 ≡ n) × ((k : ℕ) × EdgesLead E k name to)

  one_less : (k : ℕ) (name : NameId) → EndsIn E (suc k) name → EndsIn E k name
  one_less zero name ends = (name, refl)
  one_less (suc k) name ends =
      let less = one_less k ends.1.0 (ends.0, ends.1.1) in
      (less.0, (ends.1.0, less.1, ends.1.2))

  -- a chain ends in the name that has fewer edges
  fewer : (n k : ℕ) (name : NameId) → k ≤ n → EndsIn E n name → EndsIn E k name
  fewer zero k name less ends = let is : 0 ≡ k = omega arith in subst (λ (j : ℕ). EndsIn E j name) is ends
  fewer (suc n) k name less ends = ⊎_elim
      (λ (below : k < suc n). fewer n k name (omega arith) (one_less n name ends))
      (λ (above : suc n ≤ k). let is : suc n ≡ k = omega arith in subst (λ (j : ℕ). EndsIn E j name) is ends)
      (cases_lt k (suc n))

  pub within_none : (name : NameId) → IsRankWithin E 0 name 0
  within_none name = record { reached = (name, refl); longest = λ k less ends. less }

  longer : (most : ℕ) (from name : NameId) → EndsIn E most from → E from name → IsRankWithin E (suc most) name (suc most)
  longer most from name ends edge = record { reached = (ends.0, (from, ends.1, edge)); longest = λ k less ends. less }

  within_same : (most : ℕ) (name : NameId) (rank : ℕ) → IsRankWithin E most name rank → (EndsIn E (suc most) name → ⊥) → IsRankWithin E (suc most) name rank
  within_same most name rank is none = record {
    reached = is.reached;
    longest = λ k less ends. ⊎_elim
        (λ (below : k < suc most). is.longest k (omega arith) ends)
        (λ (above : suc most ≤ k). let same : k ≡ suc most = omega arith in absurd (none (subst (λ (j : ℕ). EndsIn E j name) same ends)))
        (cases_lt k (suc most));
  }

  -- no chain is longer than those that were looked at
  pub is_rank : (most : ℕ) (name : NameId) (rank : ℕ) → IsRankWithin E most name rank → ((k : ℕ) → EndsIn E k name → k ≤ most) → IsRank E name rank
  is_rank most name rank is all = record { reached = is.reached; longest = λ k ends. is.longest k (all k ends) ends }

  pub none_longer : (most : ℕ) (name : NameId) → (EndsIn E (suc most) name → ⊥) → (k : ℕ) → EndsIn E k name → k ≤ suc most
  none_longer most name none k ends = ⊎_elim
      (λ (below : k < suc most). omega arith)
      (λ (above : suc most ≤ k). absurd (none (fewer k (suc most) name above ends)))
      (cases_lt k (suc most))

  -- one round over the names below n
  pub record IsRaising (most n : ℕ) (ranks : List ℕ) (is_longer : Bool) : Type 0 where
    pub done : (name : NameId) → name.0 < n → IsRankWithin E (suc most) name (rank_in ranks name)
    pub left : (name : NameId) → n ≤ name.0 → IsRankWithin E most name (rank_in ranks name)
    pub none : is_longer ≡ false → (name : NameId) → name.0 < n → EndsIn E (suc most) name → ⊥

  pub raising_none : (most : ℕ) (ranks : List ℕ) → ((name : NameId) → IsRankWithin E most name (rank_in ranks name)) → IsRaising most 0 ranks false
  raising_none most ranks is = record {
    done = λ name below. absurd (omega arith);
    left = λ name above. is name;
    none = λ same name below. absurd (omega arith);
  }

  -- a name has a chain of so many edges just where its rank so far says it
  has_chain : (most n : ℕ) (ranks : List ℕ) (is_longer : Bool) (name : NameId) → IsRaising most n ranks is_longer → most ≤ rank_in ranks name → EndsIn E most name
  has_chain most n ranks is_longer name is high = ⊎_elim
      (λ (below : name.0 < n). fewer (rank_in ranks name) most name high (is.done name below).reached)
      (λ (above : n ≤ name.0). fewer (rank_in ranks name) most name high (is.left name above).reached)
      (cases_lt name.0 n)

  tells_chain : (most n : ℕ) (ranks : List ℕ) (is_longer : Bool) (name : NameId) → IsRaising most n ranks is_longer → EndsIn E most name → most ≤ rank_in ranks name
  tells_chain most n ranks is_longer name is ends = ⊎_elim
      (λ (below : name.0 < n). (is.done name below).longest most (omega arith) ends)
      (λ (above : n ≤ name.0). (is.left name above).longest most (omega arith) ends)
      (cases_lt name.0 n)

  pub raising_more : (most : ℕ) (name from : NameId) (ranks : List ℕ) (is_longer : Bool) → IsRaising most name.0 ranks is_longer → name.0 < length ranks
      → most ≤ rank_in ranks from → E from name → IsRaising most (name.0 + 1) (set ranks name.0 (most + 1)) true
  raising_more most name from ranks is_longer is inside high edge =
      let one : most + 1 ≡ suc most = omega arith in
      let here : IsRankWithin E (suc most) name (suc most) = longer most from name (has_chain most name.0 ranks is_longer from is high) edge in
      let set_here : get_or (set ranks name.0 (most + 1)) name.0 0 ≡ suc most = get_or-set_at ranks name.0 name.0 (most + 1) 0 refl inside ∙ one in
      let set_other : (other : NameId) → (other.0 ≡ name.0 → ⊥) → get_or (set ranks name.0 (most + 1)) other.0 0
      ≡ get_or ranks other.0 0 = λ other apart. get_or-set_other ranks name.0 other.0 (most + 1) 0 apart in
      record {
        done = λ other below. ⊎_elim
            (λ (less : other.0 < name.0). subst (IsRankWithin E (suc most) other) (sym (set_other other (λ same. omega arith))) (is.done other less))
            (λ (there : name ≡ other). subst (λ (o : NameId). IsRankWithin E (suc most) o (rank_in (set ranks name.0 (most + 1)) o)) there (subst (IsRankWithin E (suc most) name) (sym set_here) here))
            (below_or_there other name below);
        left = λ other above. subst (IsRankWithin E most other) (sym (set_other other (λ same. omega arith))) (is.left other (omega arith));
        none = λ same. absurd (cc);
      }

  pub raising_same : (most : ℕ) (name : NameId) (ranks : List ℕ) (is_longer : Bool) → IsRaising most name.0 ranks is_longer
      → ((from : NameId) → most ≤ rank_in ranks from → E from name → ⊥) → IsRaising most (name.0 + 1) ranks is_longer
  raising_same most name ranks is_longer is none =
      let no_chain : EndsIn E (suc most) name → ⊥ = λ ends. none ends.1.0 (tells_chain most name.0 ranks is_longer ends.1.0 is (ends.0, ends.1.1)) ends.1.2 in
      record {
        done = λ other below. ⊎_elim
            (λ (less : other.0 < name.0). is.done other less)
            (λ (there : name ≡ other). subst (λ (o : NameId). IsRankWithin E (suc most) o (rank_in ranks o)) there (within_same most name (rank_in ranks name) (is.left name (omega arith)) no_chain))
            (below_or_there other name below);
        left = λ other above. is.left other (omega arith);
        none = λ same other below. ⊎_elim
            (λ (less : other.0 < name.0). is.none same other less)
            (λ (there : name ≡ other). subst (λ (o : NameId). EndsIn E (suc most) o → ⊥) there no_chain)
            (below_or_there other name below);
      }

  module _ (width : ℕ) (inside : (a b : NameId) → E a b → (a.0 < width) × (b.0 < width)) where
    none_outside : (most : ℕ) (name : NameId) → width ≤ name.0 → EndsIn E (suc most) name → ⊥
    none_outside most name above ends = let below = (inside ends.1.0 name ends.1.2).1 in omega (arith, below)

    pub raising_all : (most n : ℕ) (ranks : List ℕ) (is_longer : Bool) → width ≤ n → IsRaising most n ranks is_longer → (name : NameId) → IsRankWithin E (suc most) name (rank_in ranks name)
    raising_all most n ranks is_longer whole is name = ⊎_elim
        (λ (below : name.0 < n). is.done name below)
        (λ (above : n ≤ name.0). within_same most name (rank_in ranks name) (is.left name above) (none_outside most name (omega arith)))
        (cases_lt name.0 n)

    pub raising_ended : (most n : ℕ) (ranks : List ℕ) (is_longer : Bool) → width ≤ n → IsRaising most n ranks is_longer → is_longer ≡ false → (name : NameId) → EndsIn E (suc most) name → ⊥
    raising_ended most n ranks is_longer whole is same name = ⊎_elim
        (λ (below : name.0 < n). is.none same name below)
        (λ (above : n ≤ name.0). none_outside most name (omega arith))
        (cases_lt name.0 n)

    -- the numbers of the names on a chain, the last first
    abbrev numbers : (k : ℕ) (from to : NameId) → EdgesLead E k from to → List ℕ
    numbers zero from to leads = to.0 ∷ []
    numbers (suc k) from to leads = to.0 ∷ numbers k from leads.0 leads.1

    length-numbers : (k : ℕ) (from to : NameId) (leads : EdgesLead E k from to) → length (numbers k from to leads) ≡ suc k
    length-numbers zero from to leads = refl
    length-numbers (suc k) from to leads = ap suc (length-numbers k from leads.0 leads.1)

    all_below : (k : ℕ) (from to : NameId) (leads : EdgesLead E k from to) → to.0 < width → AllByRecursion (λ n. n < width) (numbers k from to leads)
    all_below zero from to leads below = (below, tt)
    all_below (suc k) from to leads below = (below, all_below k from leads.0 leads.1 (inside leads.0 to leads.2).0)

    one_of : (xs : List ℕ) (q : ℕ) → AllByRecursion (λ n. n < width) xs → list_any (eqb q) xs ≡ true → q < width
    one_of [] q all any = absurd (cc)
    one_of (x ∷ xs) q all any = ⊎_elim
        (λ (here : eqb q x ≡ true). let same : q ≡ x = eqb-true q x here in let below : x < width = all.0 in omega arith)
        (λ (later : list_any (eqb q) xs ≡ true). one_of xs q all.1 later)
        (or_cases (eqb q x) (list_any (eqb q) xs) any)

    leads_from : (k : ℕ) (from to : NameId) (leads : EdgesLead E k from to) → AllByRecursion (IsBefore to) (numbers k from to leads)
    leads_from zero from to leads = ((to, refl, (0, refl)), tt)
    leads_from (suc k) from to leads = (
      (to, refl, (0, refl)),
      weaker (IsBefore leads.0) (IsBefore to) (λ n b. (b.0, b.1, (suc b.2.0, (leads.0, b.2.1, leads.2)))) (numbers k from leads.0 leads.1) (leads_from k from leads.0 leads.1),
    )

    module _ (acyclic : (name : NameId) → IsOnCycle E name → ⊥) where
      apart : (before to : NameId) → E before to → (n : ℕ) → IsBefore before n → eqb to.0 n ≡ false
      apart before to edge n b = ne_eqb to.0 n
          (λ same. acyclic to (b.2.0, (before, subst (λ (a : NameId). EdgesLead E b.2.0 a before) (same_name b.0 to (b.1 ∙ sym same)) b.2.1, edge)))

      distinct : (k : ℕ) (from to : NameId) (leads : EdgesLead E k from to) → IsDistinct eqb (numbers k from to leads)
      distinct zero from to leads = IsDistinct-cons eqb to.0 [] tt none_distinct
      distinct (suc k) from to leads = IsDistinct-cons eqb to.0 (numbers k from leads.0 leads.1)
          (weaker (IsBefore leads.0) (λ n. eqb to.0 n ≡ false) (apart leads.0 to leads.2) (numbers k from leads.0 leads.1) (leads_from k from leads.0 leads.1))
          (distinct k from leads.0 leads.1)

      -- where no name is on a cycle, no chain has more edges than there are names
      pub short : (k : ℕ) (name : NameId) → EndsIn E k name → k ≤ width
      short zero name ends = omega arith
      short (suc k) name ends =
          let count : length (numbers (suc k) ends.0 name ends.1) ≤ width = length-le_from_distinct_below (numbers (suc k) ends.0 name ends.1) width (distinct (suc k) ends.0 name ends.1)
          (λ q any. one_of (numbers (suc k) ends.0 name ends.1) q (all_below (suc k) ends.0 name ends.1 (inside ends.1.0 name ends.1.2).1) any) in
          omega (arith, count, length-numbers (suc k) ends.0 name ends.1)

      pub ranks_small : (ranks : List ℕ) → ((name : NameId) → EndsIn E (rank_in ranks name) name) → greatest ranks ≤ width
      ranks_small ranks ends = greatest-le width ranks (λ i. let name : NameId = record { 0 = i } in short (rank_in ranks name) name (ends name))
