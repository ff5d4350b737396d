-- Those that were asked, in groups by their nodes, and the first that is still to be asked.
use Rattle.pending.proofs.Vocabulary.{◌≡◌, ◌∙◌, ◌⊎◌, ℕ, zero, suc, ◌+◌, ◌<◌, ◌≤◌, List, [], ◌∷◌, ◌++◌, Contains, arith, drop, get_or, inl, inr, length, ⊎_elim, refl, sym, ap, subst}
use Rattle.pending.proofs.Vocabulary.{Contains-append, first_or_later, here, later, none_in_nil, ArePlaced, AllButThose, Entry, Event, Instance, IsAsleep, IsPlaceBefore, shown, SleepsNow, listed_of}
use Rattle.std.proofs.Common.{set}
use Rattle.std.proofs.lemmas.Grind.{flat_map-append}
use Rattle.pending.proofs.Vocabulary.{append-nil, map-append, None, Some}
use Rattle.std.proofs.lemmas.Option.{none-some, same_Some}
use Rattle.std.specs.Borrow.{Bor}
use Rattle.std.specs.Prelude.{slice_get}
use Rattle.std.proofs.lemmas.List.{get_or_default, get_or-set_other, get_or-set_same, length-set}
use Rattle.sleepers.proofs.NotedGroupLemmas.{below_next}
use Rattle.sleepers.proofs.AgendaLemmas.{own_fewer, own_placed}
use Rattle.sleepers.proofs.EntryLemmas.{in_places}
use Rattle.sleepers.proofs.OrderLemmas.{not_back, not_itself}
use Rattle.enf_data.specs.declared.events.NameId.{NameId}
use Rattle.sleepers.proofs.StepLemmas.{from_left, from_right}
use Rattle.sleepers.specs.machine.Agendas.{HaveOwnPlaces}
use Rattle.sleepers.specs.machine.NotedGroups.{IsContainedIn}
use Rattle.pending.specs.declared.asking.AskedOf.{AskedOf}
use Rattle.obligations.specs.declared.literals.LiteralKind.{LiteralKind}
use Rattle.obligations.specs.machine.MovedPlans.{IsUnmovedOf}
use Rattle.pending.specs.declared.asking.RuleNode.{RuleNode}
use Rattle.plan_terms.specs.meaning.Plans.{Plan, node_in}
use Rattle.pending.specs.machine.AskedEntries.{AreAskedOf, AreOfNodes, AskingList, GoesBack, IsFirstAhead, PassesFirst, entries_asked, rule_node}

abbrev pub in_group : AskedOf → List (Entry Instance)
in_group group = shown group.entries.items

-- ---- a group that changes

module _ (new : AskedOf) where
  pub set_has : (groups : List AskedOf) (at : ℕ) → at < length groups → (x : Entry Instance) → Contains (in_group new) x → Contains (entries_asked (set groups at new)) x
  set_has [] at within x there = absurd (omega (arith, within))
  set_has (g ∷ groups) zero within x there = from_left (in_group new) (entries_asked groups) x there
  set_has (g ∷ groups) (suc at) within x there =
      from_right (in_group g) (entries_asked (set groups at new)) x (set_has groups at (omega (arith, within)) x there)

  pub set_keeps : (groups : List AskedOf) (at : ℕ) (d : AskedOf) (x : Entry Instance) → Contains (entries_asked groups) x
      → Contains (in_group (get_or groups at d)) x ⊎ Contains (entries_asked (set groups at new)) x
  set_keeps [] at d x there = absurd (none_in_nil x there)
  set_keeps (g ∷ groups) zero d x there =
      ⊎_elim (λ front. inl front) (λ back. inr (from_right (in_group new) (entries_asked groups) x back)) (Contains-append (in_group g) (entries_asked groups) x there)
  set_keeps (g ∷ groups) (suc at) d x there =
      ⊎_elim (λ front. inr (from_left (in_group g) (entries_asked (set groups at new)) x front))
      (λ back. ⊎_elim (λ group. inl group) (λ on. inr (from_right (in_group g) (entries_asked (set groups at new)) x on)) (set_keeps groups at d x back))
      (Contains-append (in_group g) (entries_asked groups) x there)

  pub set_among : (groups : List AskedOf) (at : ℕ) (x : Entry Instance) → Contains (entries_asked (set groups at new)) x
      → Contains (in_group new) x ⊎ Contains (entries_asked groups) x
  set_among [] at x there = absurd (none_in_nil x there)
  set_among (g ∷ groups) zero x there =
      ⊎_elim (λ front. inl front) (λ back. inr (from_right (in_group g) (entries_asked groups) x back)) (Contains-append (in_group new) (entries_asked groups) x there)
  set_among (g ∷ groups) (suc at) x there =
      ⊎_elim (λ front. inr (from_left (in_group g) (entries_asked groups) x front))
      (λ back. ⊎_elim (λ group. inl group) (λ on. inr (from_right (in_group g) (entries_asked groups) x on)) (set_among groups at x back))
      (Contains-append (in_group g) (entries_asked (set groups at new)) x there)

  set_group : (groups : List AskedOf) (at : ℕ) (g : AskedOf) → Contains (set groups at new) g → (new ≡ g) ⊎ Contains groups g
  set_group [] at g there = absurd (none_in_nil g there)
  set_group (h ∷ groups) zero g there = ⊎_elim (λ same. inl same) (λ on. inr (later g h groups on)) (first_or_later g new groups there)
  set_group (h ∷ groups) (suc at) g there =
      ⊎_elim (λ same. inr (0, omega arith, same)) (λ on. ⊎_elim (λ same. inl same) (λ more. inr (later g h groups more)) (set_group groups at g on))
      (first_or_later g h (set groups at new) there)

  pub set_nodes : (groups : List AskedOf) (at : ℕ) → AreOfNodes groups → ((x : Entry Instance) → Contains (in_group new) x → rule_node x.item ≡ new.at)
      → AreOfNodes (set groups at new)
  set_nodes groups at nodes own g there x among =
      ⊎_elim (λ same. subst (λ (h : AskedOf). rule_node x.item ≡ h.at) same (own x (subst (λ (h : AskedOf). Contains (in_group h) x) (sym same) among)))
      (λ on. nodes g on x among) (set_group groups at g there)

-- ---- those of a group

pub group_there : (groups : List AskedOf) (at : ℕ) (d : AskedOf) → at < length groups → Contains groups (get_or groups at d)
group_there [] at d within = absurd (omega (arith, within))
group_there (g ∷ groups) zero d within = here g groups
group_there (g ∷ groups) (suc at) d within = later (get_or groups at d) g groups (group_there groups at d (omega (arith, within)))

pub group_within : (groups : List AskedOf) (g : AskedOf) → Contains groups g → IsContainedIn (in_group g) (entries_asked groups)
group_within [] g there x among = absurd (none_in_nil g there)
group_within (h ∷ groups) g there x among =
    ⊎_elim (λ same. from_left (in_group h) (entries_asked groups) x (subst (λ (k : AskedOf). Contains (in_group k) x) (sym same) among))
    (λ on. from_right (in_group h) (entries_asked groups) x (group_within groups g on x among)) (first_or_later g h groups there)

pub group_of_entry : (groups : List AskedOf) (x : Entry Instance) → Contains (entries_asked groups) x
    → (at : ℕ) × (d : AskedOf) × (at < length groups) × Contains (in_group (get_or groups at d)) x
group_of_entry [] x there = absurd (none_in_nil x there)
group_of_entry (g ∷ groups) x there =
    ⊎_elim (λ front. (0, g, omega arith, front))
    (λ back. let (at, d, within, among) = group_of_entry groups x back in (suc at, d, omega (arith, within), among))
    (Contains-append (in_group g) (entries_asked groups) x there)

-- ---- one more that was asked

pub more_groups : (groups : List AskedOf) (g : AskedOf) → entries_asked (groups ++ g ∷ []) ≡ entries_asked groups ++ in_group g
more_groups groups g = flat_map-append in_group groups (g ∷ []) ∙ ap (λ (l : List (Entry Instance)). entries_asked groups ++ l) (append-nil (in_group g))

-- in a group of its own
module _ (groups : List AskedOf) (g : AskedOf) (e : Entry Instance) (is : in_group g ≡ e ∷ []) where
  pub own_has : Contains (entries_asked (groups ++ g ∷ [])) e
  own_has =
      subst (λ (l : List (Entry Instance)). Contains l e) (sym (more_groups groups g))
      (from_right (entries_asked groups) (in_group g) e (subst (λ (l : List (Entry Instance)). Contains l e) (sym is) (here e [])))

  pub own_keeps : IsContainedIn (entries_asked groups) (entries_asked (groups ++ g ∷ []))
  own_keeps x there = subst (λ (l : List (Entry Instance)). Contains l x) (sym (more_groups groups g)) (from_left (entries_asked groups) (in_group g) x there)

  is_it : (x : Entry Instance) → Contains (in_group g) x → e ≡ x
  is_it x there =
      ⊎_elim (λ same. same) (λ none. absurd (none_in_nil x none)) (first_or_later x e [] (subst (λ (l : List (Entry Instance)). Contains l x) is there))

  pub own_among : IsContainedIn (entries_asked (groups ++ g ∷ [])) (e ∷ entries_asked groups)
  own_among x there =
      ⊎_elim (λ on. later x e (entries_asked groups) on) (λ last. (0, omega arith, is_it x last))
      (Contains-append (entries_asked groups) (in_group g) x (subst (λ (l : List (Entry Instance)). Contains l x) (more_groups groups g) there))

  pub own_nodes : rule_node e.item ≡ g.at → AreOfNodes groups → AreOfNodes (groups ++ g ∷ [])
  own_nodes of_it nodes h there x among =
      ⊎_elim (λ on. nodes h on x among)
      (λ last. ⊎_elim
      (λ same. subst (λ (k : AskedOf). rule_node x.item ≡ k.at) same
      (subst (λ (y : Entry Instance). rule_node y.item ≡ g.at) (is_it x (subst (λ (k : AskedOf). Contains (in_group k) x) (sym same) among)) of_it))
      (λ none. absurd (none_in_nil h none)) (first_or_later h g [] last))
      (Contains-append groups (g ∷ []) h there)

-- in the group of its node
module _ (groups : List AskedOf) (at : ℕ) (old new : AskedOf) (e : Entry Instance) (within : at < length groups) (read : old ≡ get_or groups at old) where
  old_in : IsContainedIn (in_group old) (entries_asked groups)
  old_in = group_within groups old (subst (λ (g : AskedOf). Contains groups g) (sym read) (group_there groups at old within))

  pub grown_has : Contains (in_group new) e → Contains (entries_asked (set groups at new)) e
  grown_has there = set_has new groups at within e there

  pub grown_keeps : IsContainedIn (in_group old) (in_group new) → IsContainedIn (entries_asked groups) (entries_asked (set groups at new))
  grown_keeps kept x there =
      ⊎_elim (λ group. set_has new groups at within x (kept x (subst (λ (g : AskedOf). Contains (in_group g) x) (sym read) group))) (λ rest. rest)
      (set_keeps new groups at old x there)

  pub grown_among : IsContainedIn (in_group new) (e ∷ in_group old) → IsContainedIn (entries_asked (set groups at new)) (e ∷ entries_asked groups)
  grown_among among x there =
      ⊎_elim (λ on. ⊎_elim (λ same. (0, omega arith, same)) (λ before. later x e (entries_asked groups) (old_in x before)) (first_or_later x e (in_group old) (among x on)))
      (λ rest. later x e (entries_asked groups) rest) (set_among new groups at x there)

  pub grown_nodes : IsContainedIn (in_group new) (e ∷ in_group old) → new.at ≡ old.at → rule_node e.item ≡ old.at → AreOfNodes groups
      → AreOfNodes (set groups at new)
  grown_nodes among node of_it nodes =
      set_nodes new groups at nodes
      (λ x there. ⊎_elim (λ same. subst (λ (y : Entry Instance). rule_node y.item ≡ old.at) same of_it ∙ sym node)
      (λ before. nodes old (subst (λ (g : AskedOf). Contains groups g) (sym read) (group_there groups at old within)) x before ∙ sym node)
      (first_or_later x e (in_group old) (among x there)))

pub own_node : (groups : List AskedOf) (at : ℕ) (old : AskedOf) (node : RuleNode) → old ≡ get_or groups at old
    → ((d : AskedOf) → (get_or groups at d).at ≡ node) → node ≡ old.at
own_node groups at old node read holds = sym (subst (λ (g : AskedOf). g.at ≡ node) (sym read) (holds old))

-- one more reference
module _ (before after : List (Bor (Entry Instance))) (e : Bor (Entry Instance)) (are : after ≡ before ++ e ∷ []) where
  grown_is : shown after ≡ shown before ++ e.now ∷ []
  grown_is = ap shown are ∙ map-append (λ (b : Bor (Entry Instance)). b.now) before (e ∷ [])

  pub pushed_has : Contains (shown after) e.now
  pushed_has = subst (λ (l : List (Entry Instance)). Contains l e.now) (sym grown_is) (from_right (shown before) (e.now ∷ []) e.now (here e.now []))

  pub pushed_keeps : IsContainedIn (shown before) (shown after)
  pushed_keeps x there = subst (λ (l : List (Entry Instance)). Contains l x) (sym grown_is) (from_left (shown before) (e.now ∷ []) x there)

  pub pushed_among : IsContainedIn (shown after) (e.now ∷ shown before)
  pushed_among x there =
      ⊎_elim (λ on. later x e.now (shown before) on)
      (λ last. ⊎_elim (λ same. (0, omega arith, same)) (λ none. absurd (none_in_nil x none)) (first_or_later x e.now [] last))
      (Contains-append (shown before) (e.now ∷ []) x (subst (λ (l : List (Entry Instance)). Contains l x) grown_is there))

-- ---- the first that is still to be asked

split_at : (xs : List (Entry Instance)) (x : Entry Instance) → Contains xs x → (front : List (Entry Instance)) × (back : List (Entry Instance)) × (xs ≡ front ++ x ∷ back)
split_at [] x there = absurd (none_in_nil x there)
split_at (y ∷ xs) x there =
    ⊎_elim (λ same. ([], xs, ap (λ (z : Entry Instance). z ∷ xs) same))
    (λ on. let (front, back, are) = split_at xs x on in (y ∷ front, back, ap (λ (l : List (Entry Instance)). y ∷ l) are)) (first_or_later x y xs there)

before_middle : (front back : List (Entry Instance)) (e x : Entry Instance) → ArePlaced (front ++ e ∷ back) → Contains front x → IsPlaceBefore x.place e.place
before_middle [] back e x order there = absurd (none_in_nil x there)
before_middle (f ∷ front) back e x order there =
    ⊎_elim
    (λ same. subst (λ (z : Entry Instance). IsPlaceBefore z.place e.place) same
    (order.0 e.place (in_places (front ++ e ∷ back) e (from_right front (e ∷ back) e (here e back)))))
    (λ on. before_middle front back e x order.1 on) (first_or_later x f front there)

pub first_ahead : (asking : AskingList) (e : Entry Instance) → ArePlaced asking.all → IsContainedIn asking.ahead asking.all → ArePlaced asking.ahead
    → asking.ahead ≡ e ∷ drop 1 asking.ahead → IsFirstAhead asking e.item
first_ahead asking e placed within order is =
    let there = subst (λ (l : List (Entry Instance)). Contains l e) (sym is) (here e (drop 1 asking.ahead)) in
    let (front, back, are) = split_at asking.all e (within e there) in
    record {
      front = front;
      entry = e;
      back = back;
      are = are;
      is = refl;
      ahead = is;
      none = λ x in_front ahead.
          let before = before_middle front back e x (subst ArePlaced are placed) in_front in
          ⊎_elim (λ same. not_itself e.place (subst (λ (z : Entry Instance). IsPlaceBefore z.place e.place) (sym same) before))
          (λ on. not_back x.place e.place before ((subst ArePlaced is order).0 x.place (in_places (drop 1 asking.ahead) x on)))
          (first_or_later x e (drop 1 asking.ahead) (subst (λ (l : List (Entry Instance)). Contains l x) is ahead));
    }

-- ---- what is awake at a step

pub awake_ahead : (Q : Entry Instance → Type 0) (all rest : List (Entry Instance)) → AllButThose Q all rest → (x : Entry Instance) → Contains all x → Contains rest x ⊎ Q x
awake_ahead Q [] rest is x there = absurd (none_in_nil x there)
awake_ahead Q (y ∷ all) rest is x there =
    ⊎_elim
    (λ on. let (others, awake, more, are) = on in
    ⊎_elim (λ same. inl (subst (λ (l : List (Entry Instance)). Contains l x) (sym are) (0, omega arith, same)))
    (λ behind. ⊎_elim (λ ahead. inl (subst (λ (l : List (Entry Instance)). Contains l x) (sym are) (later x y others ahead))) (λ asleep. inr asleep) (awake_ahead Q all others more x behind))
    (first_or_later x y all there))
    (λ asleep. ⊎_elim (λ same. inr (subst Q same asleep.0)) (λ behind. awake_ahead Q all rest asleep.1 x behind) (first_or_later x y all there)) is

all_but_alike : (P Q : Entry Instance → Type 0) → ((x : Entry Instance) → P x → Q x) → ((x : Entry Instance) → Q x → P x) → (all rest : List (Entry Instance))
    → AllButThose P all rest → AllButThose Q all rest
all_but_alike P Q to from [] rest is = is
all_but_alike P Q to from (x ∷ all) rest is =
    ⊎_elim (λ awake. inl (awake.0, λ asleep. awake.1 (from x asleep), all_but_alike P Q to from all awake.0 awake.2, awake.3))
    (λ asleep. inr (to x asleep.0, all_but_alike P Q to from all rest asleep.1)) is

pub asks_awake : (events : List Event) (moment : ℕ) (all rest : List (Entry Instance)) → AllButThose (IsAsleep events moment) all rest
    → AllButThose (λ x. SleepsNow events moment (listed_of x)) all rest
asks_awake events moment all rest is =
    all_but_alike (IsAsleep events moment) (λ x. SleepsNow events moment (listed_of x))
    (λ x asleep. record { patterns = asleep.patterns; waits = asleep.waits; none = asleep.none; in_time = asleep.in_time })
    (λ x asleep. record { patterns = asleep.patterns; waits = asleep.waits; none = asleep.none; in_time = asleep.in_time }) all rest is

-- ---- those that go back

pub own_of : (all ahead asked : List (Entry Instance)) → AreAskedOf all ahead asked → HaveOwnPlaces (ahead ++ asked)
own_of all ahead asked are =
    own_fewer (ahead ++ asked) all (λ x there. ⊎_elim (are.ahead x) (are.asked x) (Contains-append ahead asked x there)) (own_placed all are.placed)

pub append_in : (xs ys zs : List (Entry Instance)) → IsContainedIn ys zs → IsContainedIn (xs ++ ys) (xs ++ zs)
append_in xs ys zs within x there = ⊎_elim (λ front. from_left xs zs x front) (λ back. from_right xs zs x (within x back)) (Contains-append xs ys x there)

-- ---- groups that go back but for those with a property

module _ (P : Instance → Type 0) (first : List AskedOf) (before : List (Entry Instance)) where
  -- of the groups below one, those went back that do not have it
  pub record GoneBack (groups : List AskedOf) (agenda : List (Entry Instance)) (at : ℕ) : Type 0 where
    pub long : length groups ≡ length first
    pub kept : IsContainedIn before agenda
    pub among : IsContainedIn agenda (before ++ entries_asked first)
    pub fewer : IsContainedIn (entries_asked groups) (entries_asked first)
    pub own : AreOfNodes groups
    pub some : (x : Entry Instance) → Contains (entries_asked first) x → Contains agenda x ⊎ Contains (entries_asked groups) x
    pub spared : (k : ℕ) (d : AskedOf) → k < at → (x : Entry Instance) → Contains (in_group (get_or groups k d)) x → P x.item

  pub back_none : AreOfNodes first → GoneBack first before 0
  back_none own = record {
    long = refl;
    kept = λ x there. there;
    among = λ x there. from_left before (entries_asked first) x there;
    fewer = λ x there. there;
    own = own;
    some = λ x there. inr there;
    spared = λ k d below x there. absurd (omega (arith, below));
  }

  module _ (groups : List AskedOf) (agenda : List (Entry Instance)) (at : ℕ) (is : GoneBack groups agenda at) (old new : AskedOf) (within : at < length groups)
      (read : old ≡ get_or groups at old) where
    pub old_there : Contains groups old
    old_there = subst (λ (g : AskedOf). Contains groups g) (sym read) (group_there groups at old within)

    old_within : IsContainedIn (in_group old) (entries_asked groups)
    old_within = group_within groups old old_there

    pub back_own : HaveOwnPlaces (before ++ entries_asked first) → HaveOwnPlaces (agenda ++ in_group old)
    back_own own =
        own_fewer (agenda ++ in_group old) (before ++ entries_asked first)
        (λ x there. ⊎_elim (is.among x) (λ on. from_right before (entries_asked first) x (is.fewer x (old_within x on))) (Contains-append agenda (in_group old) x there)) own

    module _ (more : List (Entry Instance)) (node : new.at ≡ old.at) (among : IsContainedIn more (agenda ++ in_group old)) (fewer : IsContainedIn (in_group new) (in_group old)) where
      pub back_among : IsContainedIn more (before ++ entries_asked first)
      back_among x there =
          ⊎_elim (is.among x) (λ on. from_right before (entries_asked first) x (is.fewer x (old_within x on))) (Contains-append agenda (in_group old) x (among x there))

      pub back_fewer : IsContainedIn (entries_asked (set groups at new)) (entries_asked first)
      back_fewer x there = ⊎_elim (λ on. is.fewer x (old_within x (fewer x on))) (is.fewer x) (set_among new groups at x there)

      pub back_nodes : AreOfNodes (set groups at new)
      back_nodes = set_nodes new groups at is.own (λ x there. is.own old old_there x (fewer x there) ∙ sym node)

      back_some : IsContainedIn agenda more → GoesBack P old new more → (x : Entry Instance) → Contains (entries_asked first) x
          → Contains more x ⊎ Contains (entries_asked (set groups at new)) x
      back_some kept goes x there =
          ⊎_elim (λ on. inl (kept x on))
          (λ on. ⊎_elim
          (λ group.
          let in_old = subst (λ (g : AskedOf). Contains (in_group g) x) (sym read) group in
          ⊎_elim (λ stays. inr (set_has new groups at within x (subst (λ (g : AskedOf). Contains (in_group g) x) (sym stays.1) in_old))) (λ gone. inl (gone.0 x in_old)) goes)
          (λ rest. inr rest) (set_keeps new groups at old x on))
          (is.some x there)

      back_spared : GoesBack P old new more → (k : ℕ) (d : AskedOf) → k < at + 1 → (x : Entry Instance) → Contains (in_group (get_or (set groups at new) k d)) x
          → P x.item
      back_spared goes k d below x there =
          ⊎_elim
          (λ before_it. is.spared k d before_it x
          (subst (λ (g : AskedOf). Contains (in_group g) x) (get_or-set_other groups at k new d (λ same. omega (arith, same, before_it))) there))
          (λ same.
          let here_it : get_or (set groups at new) k d ≡ new = subst (λ (n : ℕ). get_or (set groups at new) n d ≡ new) (sym same) (get_or-set_same groups at new d within) in
          let in_new = subst (λ (g : AskedOf). Contains (in_group g) x) here_it there in
          ⊎_elim (λ stays. stays.0 x (fewer x in_new))
          (λ gone. absurd (none_in_nil x (subst (λ (l : List (Entry Instance)). Contains l x) gone.1 in_new))) goes)
          (below_next k at below)

      pub back_more : IsContainedIn agenda more → GoesBack P old new more → GoneBack (set groups at new) more (at + 1)
      back_more kept goes = record {
        long = length-set groups at new ∙ is.long;
        kept = λ x there. kept x (is.kept x there);
        among = back_among;
        fewer = back_fewer;
        own = back_nodes;
        some = back_some kept goes;
        spared = back_spared goes;
      }

  pub back_all : (groups : List AskedOf) (agenda : List (Entry Instance)) (at : ℕ) → length first ≤ at → GoneBack groups agenda at
      → (x : Entry Instance) → Contains (entries_asked first) x → Contains agenda x ⊎ (Contains (entries_asked groups) x × P x.item)
  back_all groups agenda at enough is x there =
      ⊎_elim (λ on. inl on)
      (λ on.
      let (k, d, within, among) = group_of_entry groups x on in
      inr (on, is.spared k d (omega (arith, within, enough, is.long)) x among))
      (is.some x there)

pub held_at : (groups : List AskedOf) (at : ℕ) (node : RuleNode) (g : AskedOf) → at < length groups → g ≡ get_or groups at g → g.at ≡ node
    → (d : AskedOf) → (get_or groups at d).at ≡ node
held_at groups at node g within read same d = subst (λ (h : AskedOf). h.at ≡ node) (read ∙ get_or_default groups at g d within) same

-- ---- the first of a group

pub first_shown : (xs : List (Bor (Entry Instance))) (x : Bor (Entry Instance)) → Some x ≡ slice_get xs 0 → Contains (shown xs) x.now
first_shown [] x is = absurd (none-some x (sym is))
first_shown (y ∷ xs) x is = subst (λ (z : Bor (Entry Instance)). Contains (shown (y ∷ xs)) z.now) (sym (same_Some x y is)) (here y.now (shown xs))

pub none_shown : (xs : List (Bor (Entry Instance))) → None ≡ slice_get xs 0 → (x : Entry Instance) → Contains (shown xs) x → ⊥
none_shown [] is x there = none_in_nil x there
none_shown (y ∷ xs) is x there = none-some y is

-- ---- instances of one node

pub alike : (plans : List Plan) (kind : LiteralKind) (name : NameId) (i j : Instance) → rule_node i ≡ rule_node j → IsUnmovedOf plans kind name i
    → IsUnmovedOf plans kind name j
alike plans kind name i j same unmoved node at =
    unmoved node ((λ k. node_in plans (same k).rule (same k).node) ∙ at)

-- ---- the lists of an Asking

-- the first of those ahead may be one of those that were asked
pub noted_kept : (all ahead asked more : List (Entry Instance)) (e : Entry Instance) → ahead ≡ e ∷ drop 1 ahead → IsContainedIn more (e ∷ asked)
    → AreAskedOf all ahead asked → AreAskedOf all ahead more
noted_kept all ahead asked more e is among are =
    let first = are.ahead e (subst (λ (l : List (Entry Instance)). Contains l e) (sym is) (here e (drop 1 ahead))) in
    record {
      placed = are.placed;
      ahead = are.ahead;
      asked = λ x there. ⊎_elim (λ same. subst (λ (y : Entry Instance). Contains all y) same first) (are.asked x) (first_or_later x e asked (among x there));
    }

-- the first of those ahead is one of those that were asked
pub met_kept : (all ahead asked more : List (Entry Instance)) (e : Entry Instance) → ahead ≡ e ∷ drop 1 ahead → IsContainedIn more (e ∷ asked)
    → AreAskedOf all ahead asked → AreAskedOf all (drop 1 ahead) more
met_kept all ahead asked more e is among are =
    let first = are.ahead e (subst (λ (l : List (Entry Instance)). Contains l e) (sym is) (here e (drop 1 ahead))) in
    record {
      placed = are.placed;
      ahead = λ x there. are.ahead x (subst (λ (l : List (Entry Instance)). Contains l x) (sym is) (later x e (drop 1 ahead) there));
      asked = λ x there. ⊎_elim (λ same. subst (λ (y : Entry Instance). Contains all y) same first) (are.asked x) (first_or_later x e asked (among x there));
    }

pub met_passes : (before after : AskingList) (e : Entry Instance) → before.ahead ≡ e ∷ drop 1 before.ahead → after.all ≡ before.all
    → after.ahead ≡ drop 1 before.ahead → IsContainedIn before.asked after.asked → Contains after.asked e → PassesFirst before after
met_passes before after e is all ahead kept has = record {
  all = all;
  ahead = ahead;
  kept = kept;
  first = λ x first. subst (λ (y : Entry Instance). Contains after.asked y) (head_same e x (drop 1 before.ahead) after.ahead (sym is ∙ first)) has;
}
  where
    head_or : Entry Instance → List (Entry Instance) → Entry Instance
    head_or d [] = d
    head_or d (x ∷ xs) = x

    head_same : (x y : Entry Instance) (xs ys : List (Entry Instance)) → x ∷ xs ≡ y ∷ ys → x ≡ y
    head_same x y xs ys same = ap (head_or x) same

-- nobody is still to be asked
pub met_none : (asking : AskingList) → asking.ahead ≡ [] → PassesFirst asking asking
met_none asking none = record {
  all = refl;
  ahead = none ∙ sym (ap (λ (l : List (Entry Instance)). drop 1 l) none);
  kept = λ x there. there;
  first = λ x first. absurd (none_in_nil x (subst (λ (l : List (Entry Instance)). Contains l x) none (subst (λ (l : List (Entry Instance)). Contains l x) (sym first) (here x asking.ahead))));
}

-- those that went back into the agenda
pub moved_kept : (all ahead asked more rest : List (Entry Instance)) → IsContainedIn more (ahead ++ asked) → IsContainedIn rest asked
    → AreAskedOf all ahead asked → AreAskedOf all more rest
moved_kept all ahead asked more rest among fewer are = record {
  placed = are.placed;
  ahead = λ x there. ⊎_elim (are.ahead x) (are.asked x) (Contains-append ahead asked x (among x there));
  asked = λ x there. are.asked x (fewer x there);
}
