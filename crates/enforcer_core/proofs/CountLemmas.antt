-- What is new at an inserted step has lower classes than something that is met there; so counts by class fall.
use Rattle.enforcer_core.proofs.Vocabulary.{◌≡◌, ℕ, ◌+◌, ◌<◌, ◌≤◌, ◌&&◌, Bool, true, false, cond, List, [], ◌∷◌, ◌++◌, Contains, Option, None, Some, nat_eq, refl, sym, ap, subst, ◌∙◌, arith, ⊎_elim}
use Rattle.enforcer_core.proofs.Vocabulary.{unsigned_Decides, count_by, cases_lt, false≢true, sum_by-append, sum_by-cons, same_Some, Contains-append, first_or_later, here, later, none_in_nil, Step}
use Rattle.enforcer_core.proofs.Vocabulary.{has_deadline, Plan, NodesStandIn, AreWellFormed, class_of, greatest, EdgesRise, Typed, time_now, Gathers, MissingIsOne, After, PendingAfter, node_of}
use Rattle.enforcer_core.proofs.Vocabulary.{BegunIsNamed, BegunIsReached, MissedIsReached, ReachedIsInside, Instance, trace_with_step, DecidedMissesNothing, AnyCountsFall, CountsFall, is_of_class}
use Rattle.enforcer_core.proofs.Vocabulary.{count_of_class, counts_below, class_counts, classes_of, EntriesFall, zero, suc, length, map, inl, inr, there_from_get, Contains-map, with_deadlines, NoneIsOver}
use Rattle.enforcer_core.proofs.Vocabulary.{NoneGoesOver, WindowsAreInOrder, PendCame, PendIsOne, ServedCountsFall, Decides}
use Rattle.enforcer_core.proofs.ClassLemmas.{greatest_is}
use Rattle.enforcer_core.proofs.TriggerLemmas.{IsDue, has_node}
use Rattle.enforcer_core.proofs.ReachLemmas.{IsMet, IsNew, Leaves, Passes, Stays, becomes, due_at, due_ends, ending_met, in_deadlines, is_served, leaves_new, new_lower, roots_new, stays_new}

-- ---- counts

-- how often a number is in a list
abbrev times : ℕ → List ℕ → ℕ
times n ns = count_by (λ m. nat_eq m n) ns

times_cons : (n m : ℕ) (ns : List ℕ) → times n (m ∷ ns) ≡ cond {A = ℕ} (nat_eq m n) 1 0 + times n ns
times_cons n m ns = sum_by-cons (λ (k : ℕ). cond {A = ℕ} (nat_eq k n) 1 0) m ns

counts : (b : Bool) → b ≡ true → 0 < cond {A = ℕ} b 1 0
counts true is = omega arith
counts false is = absurd (false≢true is)

is_there : (n : ℕ) (ns : List ℕ) → Contains ns n → 0 < times n ns
is_there n [] there = absurd (none_in_nil n there)
is_there n (m ∷ ns) there = ⊎_elim
    (λ (same : m ≡ n). let one = counts (nat_eq m n) ((unsigned_Decides m n).1 same) in
    let all = times_cons n m ns in omega (arith, all, one))
    (λ more. let rest = is_there n ns more in let all = times_cons n m ns in omega (arith, all, rest)) (first_or_later n m ns there)

counts_not : (b : Bool) → (b ≡ true → ⊥) → cond {A = ℕ} b 1 0 ≡ 0
counts_not true never = absurd (never refl)
counts_not false never = refl

not_there : (n : ℕ) (ns : List ℕ) → (Contains ns n → ⊥) → times n ns ≡ 0
not_there n [] none = refl
not_there n (m ∷ ns) none =
    let own = counts_not (nat_eq m n) (λ is. none (subst (Contains (m ∷ ns)) ((unsigned_Decides m n).0 is) (here m ns))) in
    let rest = not_there n ns (λ there. none (later n m ns there)) in
    let all = times_cons n m ns in omega (arith, own, rest, all)

greatest_there : (ns : List ℕ) (n : ℕ) → Contains ns n → Contains ns (greatest ns)
greatest_there [] n there = absurd (none_in_nil n there)
greatest_there (m ∷ []) n there = subst (Contains (m ∷ [])) (omega arith) (here m [])
greatest_there (m ∷ k ∷ ns) n there = ⊎_elim
    (λ (less : m < greatest (k ∷ ns)). subst (Contains (m ∷ k ∷ ns)) {x = greatest (k ∷ ns)} {y = greatest (m ∷ k ∷ ns)} (omega (arith, less))
    (later (greatest (k ∷ ns)) m (k ∷ ns) (greatest_there (k ∷ ns) k (here k ns))))
    (λ (le : greatest (k ∷ ns) ≤ m). subst (Contains (m ∷ k ∷ ns)) {x = m} {y = greatest (m ∷ k ∷ ns)} (omega (arith, le)) (here m (k ∷ ns)))
    (cases_lt m (greatest (k ∷ ns)))

module _ (ranks : List ℕ) (plans : List Plan) where
  abbrev counted : ℕ → Instance → ℕ
  counted class i = cond {A = ℕ} (is_of_class ranks plans class (node_of plans i)) 1 0

  count_is : (class : ℕ) (i : Instance) (node : Plan) → node_of plans i ≡ Some node
      → counted class i ≡ cond {A = ℕ} (has_deadline node && nat_eq (class_of ranks plans node) class) 1 0
  count_is class i node found = ap (λ (o : Option Plan). cond {A = ℕ} (is_of_class ranks plans class o) 1 0) found

  count_due : (class : ℕ) (i : Instance) (node : Plan) → node_of plans i ≡ Some node → has_deadline node ≡ true
      → counted class i ≡ cond {A = ℕ} (nat_eq (class_of ranks plans node) class) 1 0
  count_due class i node found has =
      count_is class i node found ∙ ap (λ (b : Bool). cond {A = ℕ} (b && nat_eq (class_of ranks plans node) class) 1 0) has

  count_other : (class : ℕ) (i : Instance) (node : Plan) → node_of plans i ≡ Some node → has_deadline node ≡ false
      → counted class i ≡ 0
  count_other class i node found has =
      count_is class i node found ∙ ap (λ (b : Bool). cond {A = ℕ} (b && nat_eq (class_of ranks plans node) class) 1 0) has

  cons_is : (class : ℕ) (i : Instance) (is : List Instance)
      → count_of_class ranks plans class (i ∷ is) ≡ counted class i + count_of_class ranks plans class is
  cons_is class i is = sum_by-cons (counted class) i is

  -- where none of the instances with a deadline is of the class
  none_counted : (class : ℕ) (is : List Instance)
      → ((i : Instance) (node : Plan) → Contains is i → node_of plans i ≡ Some node → has_deadline node ≡ true
      → class_of ranks plans node ≡ class → ⊥)
      → count_of_class ranks plans class is ≡ 0
  none_counted class [] none = refl
  none_counted class (i ∷ is) none =
      let rest = none_counted class is (λ j node there. none j node (later j i is there)) in
      let own = by (node_of plans i) refl in
      let all = cons_is class i is in
      omega (arith, all, rest, own)
    where
      by_due : (node : Plan) → node_of plans i ≡ Some node → (has : Bool) → has_deadline node ≡ has → counted class i ≡ 0
      by_due node found true has =
          count_due class i node found has ∙ counts_not (nat_eq (class_of ranks plans node) class)
          (λ same. none i node (here i is) found has ((unsigned_Decides (class_of ranks plans node) class).0 same))
      by_due node found false has = count_other class i node found has

      by : (at : Option Plan) → node_of plans i ≡ at → counted class i ≡ 0
      by None found = ap (λ (o : Option Plan). cond {A = ℕ} (is_of_class ranks plans class o) 1 0) found
      by (Some node) found = by_due node found (has_deadline node) refl

  joined : (class : ℕ) (is js : List Instance)
      → count_of_class ranks plans class (is ++ js) ≡ count_of_class ranks plans class is + count_of_class ranks plans class js
  joined class is js = sum_by-append (counted class) is js

-- ---- what leaves, and what is new

module _ (stand : NodesStandIn) (inside : ReachedIsInside) (named : BegunIsNamed) (begun_reached : BegunIsReached)
    (one : MissingIsOne) (typed : Typed) (formed : AreWellFormed typed.plans typed.guards) (trace : List Step)
    (pending : List Instance) where
  abbrev plans : List Plan
  plans = typed.plans

  abbrev ranks : List ℕ
  ranks = typed.ranked.ranks

  abbrev New : Instance → Type 0
  New i = IsNew stand inside named begun_reached one typed formed trace pending i

  -- the classes of what leaves with a deadline, and what is new, make up the difference
  record Balance (before after : List Instance) : Type 0 where
    classes : List ℕ
    fresh : List Instance
    even : (class : ℕ) → count_of_class ranks plans class after + times class classes
        ≡ count_of_class ranks plans class before + count_of_class ranks plans class fresh
    met : (i : Instance) (node : Plan) → IsDue plans before i node → IsMet trace i node → Contains classes (class_of ranks plans node)
    new : (i : Instance) → Contains fresh i → New i

  module _ (i : Instance) (before first rest : List Instance) (there : Contains pending i) (node : Plan)
      (found : node_of plans i ≡ Some node) (b : Balance before rest) where
    same_node : (other : Plan) → node_of plans i ≡ Some other → node ≡ other
    same_node other is = same_Some node other (sym found ∙ is)

    -- an instance that does not leave so is none of those that are met
    met_later : (IsMet trace i node → has_deadline node ≡ true → ⊥) → (j : Instance) (other : Plan) → IsDue plans (i ∷ before) j other
        → IsMet trace j other → Contains b.classes (class_of ranks plans other)
    met_later not j other due is = ⊎_elim
        (λ (same : i ≡ j).
        let at : node ≡ other = same_node other (subst (λ (k : Instance). node_of plans k ≡ Some other) (sym same) due.found) in
        let is' : IsMet trace i other = subst (λ (k : Instance). IsMet trace k other) (sym same) is in
        absurd (not (subst (IsMet trace i) (sym at) is') (subst (λ (n : Plan). has_deadline n ≡ true) (sym at) due.has)))
        (λ more. b.met j other (record { there = more; found = due.found; has = due.has }) is)
        (first_or_later j i before due.there)

    with_stays : Stays trace i node first → Balance (i ∷ before) (first ++ rest)
    with_stays s = record {
      classes = b.classes;
      fresh = s.more ++ b.fresh;
      even = λ class.
          let all = joined ranks plans class first rest in
          let own = ap (count_of_class ranks plans class) s.are ∙ cons_is ranks plans class i s.more in
          let front = cons_is ranks plans class i before in
          let fresh = joined ranks plans class s.more b.fresh in
          let rest' = b.even class in
          omega (arith, all, own, front, fresh, rest');
      met = met_later (λ is has. s.unmet is);
      new = λ j among. ⊎_elim
          (stays_new stand inside named begun_reached one typed formed trace pending i node first there found s j)
          (b.new j) (Contains-append s.more b.fresh j among);
    }

    with_leaves : Leaves trace i node first → Balance (i ∷ before) (first ++ rest)
    with_leaves l = record {
      classes = class_of ranks plans node ∷ b.classes;
      fresh = first ++ b.fresh;
      even = λ class.
          let all = joined ranks plans class first rest in
          let own = count_due ranks plans class i node found l.has in
          let front = cons_is ranks plans class i before in
          let class_front = times_cons class (class_of ranks plans node) b.classes in
          let fresh = joined ranks plans class first b.fresh in
          let rest' = b.even class in
          omega (arith, all, own, front, class_front, fresh, rest');
      met = λ j other due is. ⊎_elim
          (λ (same : i ≡ j).
          subst (λ (n : Plan). Contains (class_of ranks plans node ∷ b.classes) (class_of ranks plans n))
          (same_node other (subst (λ (k : Instance). node_of plans k ≡ Some other) (sym same) due.found))
          (here (class_of ranks plans node) b.classes))
          (λ more. later (class_of ranks plans other) (class_of ranks plans node) b.classes
          (b.met j other (record { there = more; found = due.found; has = due.has }) is))
          (first_or_later j i before due.there);
      new = λ j among. ⊎_elim
          (leaves_new stand inside named begun_reached one typed formed trace pending i node first there found l j)
          (b.new j) (Contains-append first b.fresh j among);
    }

    with_passes : Passes node first → Balance (i ∷ before) (first ++ rest)
    with_passes p = record {
      classes = b.classes;
      fresh = b.fresh;
      even = λ class.
          let all = joined ranks plans class first rest in
          let none = ap (count_of_class ranks plans class) p.none in
          let own = count_other ranks plans class i node found p.has in
          let front = cons_is ranks plans class i before in
          let rest' = b.even class in
          omega (arith, all, none, own, front, rest');
      met = met_later (λ is has. false≢true (sym p.has ∙ has));
      new = b.new;
    }

  balance : (before kept : List Instance) → ((i : Instance) → Contains before i → Contains pending i)
      → Gathers (After plans trace) before kept → Balance before kept
  balance [] kept within none = record {
    classes = [];
    fresh = [];
    even = λ class. let is = ap (count_of_class ranks plans class) none in omega (arith, is);
    met = λ i node due is. absurd (none_in_nil i due.there);
    new = λ i among. absurd (none_in_nil i among);
  }
  balance (i ∷ before) kept within (first, rest, is, others, are) =
      let b = balance before rest (λ j there. within j (later j i before there)) others in
      let turn = becomes stand inside named begun_reached one typed formed trace i first is in
      let there = within i (here i before) in
      subst (Balance (i ∷ before)) (sym are) (⊎_elim
      (with_stays i before first rest there turn.0 turn.1 b)
      (λ other. ⊎_elim (with_leaves i before first rest there turn.0 turn.1 b) (with_passes i before first rest there turn.0 turn.1 b) other)
      turn.2)

  balance_all : (after : List Instance) → PendingAfter plans trace pending after → Balance pending after
  balance_all after (kept, begun, goes, begins, are) =
      let b = balance pending kept (λ i there. there) goes in record {
        classes = b.classes;
        fresh = b.fresh ++ begun;
        even = λ class.
            let all = ap (count_of_class ranks plans class) are ∙ joined ranks plans class kept begun in
            let fresh = joined ranks plans class b.fresh begun in
            let rest' = b.even class in
            omega (arith, all, fresh, rest');
        met = b.met;
        new = λ j among. ⊎_elim (b.new j)
            (roots_new stand inside named begun_reached one typed formed trace pending begun begins j)
            (Contains-append b.fresh begun j among);
      }

  -- where each new instance is lower than one that is met, and some is met, the counts fall
  counts_fall : (after : List Instance) → Balance pending after
      → ((i : Instance) (new : New i) → has_deadline new.node ≡ true
      → (j : Instance) × (node : Plan) × IsDue plans pending j node × IsMet trace j node
      × class_of ranks plans new.node < class_of ranks plans node)
      → (i : Instance) (node : Plan) → IsDue plans pending i node → IsMet trace i node → CountsFall ranks plans pending after
  counts_fall after b lower i node due is =
      let some = b.met i node due is in
      let low : (class : ℕ) → greatest b.classes ≤ class → count_of_class ranks plans class b.fresh ≡ 0 =
      λ class le. none_counted ranks plans class b.fresh (λ j other among found has same.
      let new = b.new j among in
      let at : new.node ≡ other = same_Some new.node other (sym new.found ∙ found) in
      let high = lower j new (subst (λ (n : Plan). has_deadline n ≡ true) (sym at) has) in
      let most = greatest_is b.classes (class_of ranks plans high.1) (b.met high.0 high.1 high.2 high.3) in
      let is_class : class_of ranks plans new.node ≡ class = ap (class_of ranks plans) at ∙ same in
      omega (arith, le, most, high.4, is_class)) in
      record {
        class = greatest b.classes;
        fewer =
            let one' = is_there (greatest b.classes) b.classes (greatest_there b.classes (class_of ranks plans node) some) in
            let even = b.even (greatest b.classes) in
            let none = low (greatest b.classes) (omega arith) in
            omega (arith, one', even, none);
        above = λ higher less.
            let none = not_there higher b.classes (λ there. let most = greatest_is b.classes higher there in omega (arith, most, less)) in
            let even = b.even higher in
            let none' = low higher (omega (arith, less)) in
            omega (arith, none, even, none');
      }

module _ (stand : NodesStandIn) (inside : ReachedIsInside) (named : BegunIsNamed) (begun_reached : BegunIsReached)
    (missing_one : MissingIsOne) (rise : EdgesRise) (missed : MissedIsReached) (nothing : DecidedMissesNothing) where
  pub any_counts_fall : AnyCountsFall
  any_counts_fall typed trace pending after deadline actions events formed accepted ranked ordered least decided goes =
      let s = is_served stand inside named begun_reached missing_one rise missed nothing
      typed trace pending after deadline actions events accepted ranked ordered decided goes in
      let d = due_at typed.plans least.instance deadline least.is in
      let due : IsDue typed.plans pending least.instance d.0 = record { there = least.there; found = d.1; has = d.2 } in
      let now : time_now (trace_with_step trace deadline events) ≡ least.instance.high = s.now ∙ sym d.3 in
      counts_fall stand inside named begun_reached missing_one typed formed (trace_with_step trace deadline events) pending after
      (balance_all stand inside named begun_reached missing_one typed formed (trace_with_step trace deadline events) pending after s.goes)
      (new_lower stand inside named begun_reached missing_one typed formed accepted rise ranked.ranks (trace_with_step trace deadline events) pending s.ordered s.quiet s.owed)
      least.instance d.0 due
      (ending_met stand inside named begun_reached missing_one typed formed accepted rise ranked.ranks (trace_with_step trace deadline events) pending s.ordered s.quiet s.owed
      least.instance d.0 due (due_ends (time_now (trace_with_step trace deadline events)) least.instance d.0 d.2 now))

-- ---- compared from the greatest class down

-- they are as many as there are classes
pub counts_are_wide : (ranks : List ℕ) (plans : List Plan) (pending : List Instance) (classes : ℕ)
    → length (counts_below ranks plans classes pending) ≡ classes
counts_are_wide ranks plans pending zero = refl
counts_are_wide ranks plans pending (suc class) = let rest = counts_are_wide ranks plans pending class in omega (arith, rest)

module _ (ranks : List ℕ) (plans : List Plan) (before after : List Instance) (fall : CountsFall ranks plans before after) where
  fall_below : (classes : ℕ) → fall.class < classes
      → EntriesFall (counts_below ranks plans classes before) (counts_below ranks plans classes after)
  fall_below zero less = absurd (omega (arith, less))
  fall_below (suc class) less = ⊎_elim
      (λ (lower : fall.class < class). inr (fall.above class lower, fall_below class lower))
      (λ (others : class ≤ fall.class). inl (subst (λ (c : ℕ). count_of_class ranks plans c after < count_of_class ranks plans c before)
      {x = fall.class} {y = class} (omega (arith, less, others)) fall.fewer))
      (cases_lt fall.class class)

  -- the class of which there are fewer is that of a node with a deadline
  class_is_below : fall.class < classes_of ranks plans
  class_is_below = ⊎_elim
      (λ less. less)
      (λ (above : classes_of ranks plans ≤ fall.class).
      let none = none_counted ranks plans fall.class before (λ i node there found has same.
      let h = has_node plans i node found in
      let among = in_deadlines plans h.plan node (there_from_get plans i.rule h.plan h.plan_is) h.inside has in
      let within = greatest_is (map (class_of ranks plans) (with_deadlines plans)) (class_of ranks plans node)
      (Contains-map (class_of ranks plans) (with_deadlines plans) node among) in
      omega (arith, above, within, same)) in
      let fewer = fall.fewer in
      absurd (omega (arith, fewer, none)))
      (cases_lt fall.class (classes_of ranks plans))

  entries_fall : EntriesFall (class_counts ranks plans before) (class_counts ranks plans after)
  entries_fall = fall_below (classes_of ranks plans) class_is_below

-- what is pending after a trace is in windows that are in order, and goes where the step leads it
pub served_counts_fall : AnyCountsFall → NoneGoesOver → WindowsAreInOrder → PendCame → PendIsOne → ServedCountsFall
served_counts_fall falls over windows came one typed trace pending after deadline o works pend least goes_out pend_after =
    let same : trace ++ o.step ∷ [] ≡ trace_with_step trace deadline o.step.events =
    ap (λ (time : ℕ). trace_with_step trace time o.step.events) goes_out.time_is in
    let from = came typed.plans trace o.step after pend_after in
    let goes : PendingAfter typed.plans (trace ++ o.step ∷ []) pending after =
    subst (λ (l : List Instance). PendingAfter typed.plans (trace ++ o.step ∷ []) l after) (one typed.plans trace from.0 pending from.1 pend) from.2 in (
      subst (NoneIsOver typed.plans after) goes_out.time_is
          (over typed trace o.step pending after works goes (subst (NoneIsOver typed.plans pending) (sym goes_out.time_is) least.least)),
      entries_fall typed.ranked.ranks typed.plans pending after
          (falls typed trace pending after deadline o.actions o.step.events works.formed works.accepted works.ranked
          (windows typed trace pending works pend) least
          (subst (λ (l : List Instance). Decides typed.plans trace l true deadline [] o.actions o.step.events) (one typed.plans trace goes_out.pending pending goes_out.pend pend) goes_out.decided)
          (subst (λ (steps : List Step). PendingAfter typed.plans steps pending after) same goes)),
    )
