-- Of a text the second pass answers the refusal with the least place.
use Rattle.formula_reader.proofs.Vocabulary.{◌≡◌, ℕ, ◌+◌, ◌<◌, ◌≤◌, inl, inr, List, [], ◌∷◌, ◌++◌, Option, None, Some, refl, sym, ap, subst, ◌∙◌, arith, AllByRecursion, option_or, IsPolicyText}
use Rattle.formula_reader.proofs.Vocabulary.{PolicyRule, NameEntry, Point, points, known_after, policy_refusal, rule_refusal, IsLeastInRules, PlacesRise, RefusalStands, StandsInRules, place_of_point}
use Rattle.formula_reader.proofs.Vocabulary.{refusal_place, PolicyRefusal}
use Rattle.formula_reader.proofs.LeastRefusal.{first_least, first_stands, least_first, none_stands, point_place}
use Rattle.formula_reader.proofs.RisingPlaces.{PlacedFrom, RisesFrom, all_points, policy_follow, tokens_rise}

rises_above : (low high : ℕ) (ps : List Point) → low ≤ high → RisesFrom high ps → AllByRecursion (λ p. low ≤ place_of_point p) ps
rises_above low high [] le h = tt
rises_above low high (p ∷ ps) le h =
    let a : high ≤ place_of_point p = h.0 in (omega arith, rises_above low (place_of_point p + 1) ps (omega arith) h.1)

above : (low : ℕ) (ps : List Point) → RisesFrom (low + 1) ps → AllByRecursion (λ p. low < place_of_point p) ps
above low ps h = strictly ps (rises_above (low + 1) (low + 1) ps (omega arith) h)
  where
    strictly : (qs : List Point) → AllByRecursion (λ p. low + 1 ≤ place_of_point p) qs → AllByRecursion (λ p. low < place_of_point p) qs
    strictly [] g = tt
    strictly (q ∷ qs) g = let a : low + 1 ≤ place_of_point q = g.0 in (omega arith, strictly qs g.1)

-- points that rise, and others after them from a place on
pub record IsSplit (low : ℕ) (ps qs : List Point) : Type 0 where
  pub seam : ℕ
  pub rises : PlacesRise ps
  pub below : AllByRecursion (λ p. place_of_point p < seam) ps
  pub from : RisesFrom seam qs
  pub over : low ≤ seam

split : (ps qs : List Point) (low : ℕ) → RisesFrom low (ps ++ qs) → IsSplit low ps qs
split [] qs low h = record { seam = low; rises = tt; below = tt; from = h; over = omega arith }
split (p ∷ ps) qs low h =
    let a : low ≤ place_of_point p = h.0 in
    let s = split ps qs (place_of_point p + 1) h.1 in
    let b : place_of_point p + 1 ≤ s.seam = s.over in
    record { seam = s.seam; rises = (above (place_of_point p) ps (front ps qs (place_of_point p + 1) h.1), s.rises); below = (omega arith, s.below); from = s.from; over = omega arith }
  where
    front : (xs bs : List Point) (from : ℕ) → RisesFrom from (xs ++ bs) → RisesFrom from xs
    front [] bs from g = tt
    front (x ∷ xs) bs from g = (g.0, front xs bs (place_of_point x + 1) g.1)

-- what stands at points is refused below a place, where they are
refused_below : (entries : List NameEntry) (before ps : List Point) (seam : ℕ) (refusal : PolicyRefusal) → AllByRecursion (λ p. place_of_point p < seam) ps
    → RefusalStands entries before ps refusal → refusal_place refusal < seam
refused_below entries before [] seam refusal a h = absurd h
refused_below entries before (p ∷ ps) seam refusal a (inl e) =
    let same : refusal_place refusal ≡ place_of_point p = point_place entries (known_after before) p refusal e in
    let less : place_of_point p < seam = a.0 in omega arith
refused_below entries before (p ∷ ps) seam refusal a (inr h) = refused_below entries (p ∷ before) ps seam refusal a.1 h

refused_over : (entries : List NameEntry) (before ps : List Point) (low : ℕ) (refusal : PolicyRefusal) → AllByRecursion (λ p. low ≤ place_of_point p) ps
    → RefusalStands entries before ps refusal → low ≤ refusal_place refusal
refused_over entries before [] low refusal a h = absurd h
refused_over entries before (p ∷ ps) low refusal a (inl e) =
    let same : refusal_place refusal ≡ place_of_point p = point_place entries (known_after before) p refusal e in
    let le : low ≤ place_of_point p = a.0 in omega arith
refused_over entries before (p ∷ ps) low refusal a (inr h) = refused_over entries (p ∷ before) ps low refusal a.1 h

rules_over : (entries : List NameEntry) (rules : List PolicyRule) (low : ℕ) (refusal : PolicyRefusal) → RisesFrom low (all_points entries rules)
    → StandsInRules entries rules refusal → low ≤ refusal_place refusal
rules_over entries [] low refusal rises h = absurd h
rules_over entries (rule ∷ rules) low refusal rises (inl h) =
    refused_over entries [] (points entries [] [] rule.formula) low refusal
    (front (points entries [] [] rule.formula) (rises_above low low (points entries [] [] rule.formula ++ all_points entries rules) (omega arith) rises)) h
  where
    front : (xs : List Point) → AllByRecursion (λ p. low ≤ place_of_point p) (xs ++ all_points entries rules) → AllByRecursion (λ p. low ≤ place_of_point p) xs
    front [] g = tt
    front (x ∷ xs) g = (g.0, front xs g.1)
rules_over entries (rule ∷ rules) low refusal rises (inr h) =
    let s = split (points entries [] [] rule.formula) (all_points entries rules) low rises in
    let a : low ≤ s.seam = s.over in
    let b : s.seam ≤ refusal_place refusal = rules_over entries rules s.seam refusal s.from h in omega arith

-- where no refusal is first none stands
pub none_in_rules : (entries : List NameEntry) (rules : List PolicyRule) (refusal : PolicyRefusal) → policy_refusal entries rules ≡ None → StandsInRules entries rules refusal → ⊥
none_in_rules entries [] refusal e h = h
none_in_rules entries (rule ∷ rules) refusal e h = by (rule_refusal entries rule) refl e h (λ f s. none_in_rules entries rules refusal f s)
  where
    by : (r : Option PolicyRefusal) → rule_refusal entries rule ≡ r → option_or r (policy_refusal entries rules) ≡ None → StandsInRules entries (rule ∷ rules) refusal
        → (policy_refusal entries rules ≡ None → StandsInRules entries rules refusal → ⊥) → ⊥
    by None is f (inl s) later = none_stands entries [] (points entries [] [] rule.formula) refusal is s
    by None is f (inr s) later = later f s
    by (Some q) is f s later = cc

first_in_rules : (entries : List NameEntry) (rules : List PolicyRule) (refusal : PolicyRefusal) → policy_refusal entries rules ≡ Some refusal → StandsInRules entries rules refusal
first_in_rules entries [] refusal e = cc
first_in_rules entries (rule ∷ rules) refusal e = by (rule_refusal entries rule) refl e (λ f. first_in_rules entries rules refusal f)
  where
    by : (r : Option PolicyRefusal) → rule_refusal entries rule ≡ r → option_or r (policy_refusal entries rules) ≡ Some refusal
        → (policy_refusal entries rules ≡ Some refusal → StandsInRules entries rules refusal) → StandsInRules entries (rule ∷ rules) refusal
    by None is f later = inr (later f)
    by (Some q) is f later = inl (first_stands entries [] (points entries [] [] rule.formula) refusal (is ∙ f))

least_in_rules : (entries : List NameEntry) (rules : List PolicyRule) (low : ℕ) (refusal other : PolicyRefusal) → RisesFrom low (all_points entries rules)
    → policy_refusal entries rules ≡ Some refusal → StandsInRules entries rules other → refusal_place refusal ≤ refusal_place other
least_in_rules entries [] low refusal other rises e h = absurd h
least_in_rules entries (rule ∷ rules) low refusal other rises e h =
    by (rule_refusal entries rule) refl e h (λ seam above f s. least_in_rules entries rules seam refusal other above f s)
  where
    own : List Point
    own = points entries [] [] rule.formula

    by : (r : Option PolicyRefusal) → rule_refusal entries rule ≡ r → option_or r (policy_refusal entries rules) ≡ Some refusal → StandsInRules entries (rule ∷ rules) other
        → ((seam : ℕ) → RisesFrom seam (all_points entries rules) → policy_refusal entries rules ≡ Some refusal → StandsInRules entries rules other → refusal_place refusal ≤ refusal_place other)
        → refusal_place refusal ≤ refusal_place other
    by None is f (inl s) later = absurd (none_stands entries [] own other is s)
    by None is f (inr s) later =
        let t = split own (all_points entries rules) low rises in later t.seam t.from f s
    by (Some q) is f (inl s) later =
        let t = split own (all_points entries rules) low rises in first_least entries [] own refusal other t.rises (is ∙ f) s
    by (Some q) is f (inr s) later =
        let t = split own (all_points entries rules) low rises in
        let a : refusal_place refusal < t.seam = refused_below entries [] own t.seam refusal t.below (first_stands entries [] own refusal (is ∙ f)) in
        let b : t.seam ≤ refusal_place other = rules_over entries rules t.seam other t.from s in omega arith

rules_least : (entries : List NameEntry) (rules : List PolicyRule) (low : ℕ) (refusal : PolicyRefusal) → RisesFrom low (all_points entries rules)
    → StandsInRules entries rules refusal → ((other : PolicyRefusal) → StandsInRules entries rules other → refusal_place refusal ≤ refusal_place other)
    → policy_refusal entries rules ≡ Some refusal
rules_least entries [] low refusal rises h least = absurd h
rules_least entries (rule ∷ rules) low refusal rises h least =
    by (rule_refusal entries rule) refl h (λ seam over s lower. rules_least entries rules seam refusal over s lower)
  where
    own : List Point
    own = points entries [] [] rule.formula

    by : (r : Option PolicyRefusal) → rule_refusal entries rule ≡ r → StandsInRules entries (rule ∷ rules) refusal
        → ((seam : ℕ) → RisesFrom seam (all_points entries rules) → StandsInRules entries rules refusal
        → ((other : PolicyRefusal) → StandsInRules entries rules other → refusal_place refusal ≤ refusal_place other) → policy_refusal entries rules ≡ Some refusal)
        → option_or (rule_refusal entries rule) (policy_refusal entries rules) ≡ Some refusal
    by None is (inl s) later = absurd (none_stands entries [] own refusal is s)
    by None is (inr s) later =
        let t = split own (all_points entries rules) low rises in
        ap (λ (r : Option PolicyRefusal). option_or r (policy_refusal entries rules)) is
        ∙ later t.seam t.from s (λ other g. least other (inr g))
    by (Some q) is (inl s) later =
        let t = split own (all_points entries rules) low rises in
        ap (λ (r : Option PolicyRefusal). option_or r (policy_refusal entries rules)) (least_first entries [] own refusal t.rises s (λ other g. least other (inl g)))
    by (Some q) is (inr s) later =
        let t = split own (all_points entries rules) low rises in
        let stands = first_stands entries [] own q is in
        let a : refusal_place q < t.seam = refused_below entries [] own t.seam q t.below stands in
        let b : t.seam ≤ refusal_place refusal = rules_over entries rules t.seam refusal t.from s in
        let c : refusal_place refusal ≤ refusal_place q = least q (inl stands) in absurd (omega arith)

-- ---- the points of a text

pub text_rises : (entries : List NameEntry) (bytes : List ℕ) (rules : List PolicyRule) → IsPolicyText bytes rules → RisesFrom 0 (all_points entries rules)
text_rises entries bytes rules text =
    subst (λ (rs : List PolicyRule). RisesFrom 0 (all_points entries rs)) text.read.tree_is
    (policy_follow text.read.phrase entries 0 (subst (PlacedFrom 0) (sym text.read.spells) (tokens_rise 0 0 bytes)))

pub text_least : (entries : List NameEntry) (bytes : List ℕ) (rules : List PolicyRule) (refusal : PolicyRefusal) → IsPolicyText bytes rules
    → policy_refusal entries rules ≡ Some refusal → IsLeastInRules entries rules refusal
text_least entries bytes rules refusal text e = record {
  stands = first_in_rules entries rules refusal e;
  least = λ other h. least_in_rules entries rules 0 refusal other (text_rises entries bytes rules text) e h;
}

pub least_of_text : (entries : List NameEntry) (bytes : List ℕ) (rules : List PolicyRule) (refusal : PolicyRefusal) → IsPolicyText bytes rules
    → IsLeastInRules entries rules refusal → policy_refusal entries rules ≡ Some refusal
least_of_text entries bytes rules refusal text h = rules_least entries rules 0 refusal (text_rises entries bytes rules text) h.stands h.least

pub each_rises : (entries : List NameEntry) (rules : List PolicyRule) (low : ℕ) → RisesFrom low (all_points entries rules)
    → AllByRecursion (λ (rule : PolicyRule). PlacesRise (points entries [] [] rule.formula)) rules
each_rises entries [] low h = tt
each_rises entries (rule ∷ rules) low h =
    let s = split (points entries [] [] rule.formula) (all_points entries rules) low h in (s.rises, each_rises entries rules s.seam s.from)
