use Rattle.pending.proofs.Vocabulary.{◌≡◌, ◌<◌, ◌∷◌, [], List, Contains, ap, arith, get_or, later, length, refl, shown, subst, sym}
use Rattle.pending.specs.declared.asking.AskedOf.{AskedOf}
use Rattle.pending.specs.machine.AskedEntries.{AreOfNodes, entries_asked, rule_node}
use Rattle.pending.proofs.AskingLemmas.{grown_among, grown_has, grown_keeps, grown_nodes, in_group, own_among, own_has, own_keeps, own_node, own_nodes, pushed_among, pushed_has, pushed_keeps}
use Rattle.pending.proofs.asking.note.Goals as goal

pub returns-in_err-entries-clause-among : goal.returns-in_err-entries-clause-among
returns-in_err-entries-clause-among c = λ x there. later x c.args.entry.now (entries_asked c.args.asked.now.items) there

pub returns-in_err-push-clause-among : goal.returns-in_err-push-clause-among
returns-in_err-push-clause-among c = λ x there.
    later x c.args.entry.now (entries_asked c.args.asked.now.items) (subst (λ l. Contains (entries_asked l) x) c.in_err-push.ensures.items there)

pub returns-in_err-push-clause-nodes : goal.returns-in_err-push-clause-nodes
returns-in_err-push-clause-nodes c = subst AreOfNodes (sym c.in_err-push.ensures.items) c.requires

-- in a group of its own

pub returns-in_default-clause-has : goal.returns-in_default-clause-has
returns-in_default-clause-has c =
    let made : AskedOf = record { at = rule_node c.args.entry.now.item; entries = c.in_ok-entries.entries } in
    let is : in_group made ≡ c.args.entry.now ∷ [] = ap shown c.in_ok-entries.ensures.items in
    subst (λ l. Contains (entries_asked l) c.args.entry.now) (sym c.in_ok-push.ensures.items) (own_has c.args.asked.now.items made c.args.entry.now is)

pub returns-in_default-clause-kept : goal.returns-in_default-clause-kept
returns-in_default-clause-kept c = λ x there.
    let made : AskedOf = record { at = rule_node c.args.entry.now.item; entries = c.in_ok-entries.entries } in
    let is : in_group made ≡ c.args.entry.now ∷ [] = ap shown c.in_ok-entries.ensures.items in
    subst (λ l. Contains (entries_asked l) x) (sym c.in_ok-push.ensures.items) (own_keeps c.args.asked.now.items made c.args.entry.now is x there)

pub returns-in_default-clause-among : goal.returns-in_default-clause-among
returns-in_default-clause-among c = λ x there.
    let made : AskedOf = record { at = rule_node c.args.entry.now.item; entries = c.in_ok-entries.entries } in
    let is : in_group made ≡ c.args.entry.now ∷ [] = ap shown c.in_ok-entries.ensures.items in
    own_among c.args.asked.now.items made c.args.entry.now is x (subst (λ l. Contains (entries_asked l) x) c.in_ok-push.ensures.items there)

pub returns-in_default-clause-nodes : goal.returns-in_default-clause-nodes
returns-in_default-clause-nodes c =
    let made : AskedOf = record { at = rule_node c.args.entry.now.item; entries = c.in_ok-entries.entries } in
    let is : in_group made ≡ c.args.entry.now ∷ [] = ap shown c.in_ok-entries.ensures.items in
    subst AreOfNodes (sym c.in_ok-push.ensures.items) (own_nodes c.args.asked.now.items made c.args.entry.now is refl c.requires)

-- in the group of its node

pub returns-in_err-push-2-clause-kept : goal.returns-in_err-push-2-clause-kept
returns-in_err-push-2-clause-kept c =
    let groups = c.args.asked.now.items in
    let at = c.in-Some.at in
    let e = c.args.entry in
    let old : AskedOf = c.in-Some-get_mut.group.now in
    let new : AskedOf = record { at = old.at; entries = c.push-2.new.self } in
    let within : at < length groups = omega (arith, (c.in-Some-get_mut.ensures.variant).0 refl, c.args.asked.now.ok.0) in
    grown_keeps groups at old new e.now within c.in-Some-get_mut.ensures.value (λ x there. subst (λ l. Contains (shown l) x) (sym c.in_err-push-2.ensures.items) there)

pub returns-in_err-push-2-clause-among : goal.returns-in_err-push-2-clause-among
returns-in_err-push-2-clause-among c =
    let groups = c.args.asked.now.items in
    let at = c.in-Some.at in
    let e = c.args.entry in
    let old : AskedOf = c.in-Some-get_mut.group.now in
    let new : AskedOf = record { at = old.at; entries = c.push-2.new.self } in
    let within : at < length groups = omega (arith, (c.in-Some-get_mut.ensures.variant).0 refl, c.args.asked.now.ok.0) in
    grown_among groups at old new e.now within c.in-Some-get_mut.ensures.value (λ x there. later x e.now (in_group old) (subst (λ l. Contains (shown l) x) c.in_err-push-2.ensures.items there))

pub returns-in_err-push-2-clause-nodes : goal.returns-in_err-push-2-clause-nodes
returns-in_err-push-2-clause-nodes c =
    let groups = c.args.asked.now.items in
    let at = c.in-Some.at in
    let e = c.args.entry in
    let old : AskedOf = c.in-Some-get_mut.group.now in
    let new : AskedOf = record { at = old.at; entries = c.push-2.new.self } in
    let within : at < length groups = omega (arith, (c.in-Some-get_mut.ensures.variant).0 refl, c.args.asked.now.ok.0) in
    let of_it = own_node groups at old (rule_node e.now.item) c.in-Some-get_mut.ensures.value
    (subst (λ (l : List AskedOf). (d : AskedOf) → (get_or l at d).at ≡ rule_node e.now.item) c.as_slice.ensures.value c.in-Some.ensures.1) in
    grown_nodes groups at old new e.now within c.in-Some-get_mut.ensures.value (λ x there. later x e.now (in_group old) (subst (λ l. Contains (shown l) x) c.in_err-push-2.ensures.items there)) refl of_it c.requires

pub returns-clause-has : goal.returns-clause-has
returns-clause-has c =
    let groups = c.args.asked.now.items in
    let at = c.in-Some.at in
    let e = c.args.entry in
    let old : AskedOf = c.in-Some-get_mut.group.now in
    let new : AskedOf = record { at = old.at; entries = c.push-2.new.self } in
    let within : at < length groups = omega (arith, (c.in-Some-get_mut.ensures.variant).0 refl, c.args.asked.now.ok.0) in
    grown_has groups at old new e.now within c.in-Some-get_mut.ensures.value (pushed_has old.entries.items c.push-2.new.self.items e c.in_ok-push-2.ensures.items)

pub returns-clause-kept : goal.returns-clause-kept
returns-clause-kept c =
    let groups = c.args.asked.now.items in
    let at = c.in-Some.at in
    let e = c.args.entry in
    let old : AskedOf = c.in-Some-get_mut.group.now in
    let new : AskedOf = record { at = old.at; entries = c.push-2.new.self } in
    let within : at < length groups = omega (arith, (c.in-Some-get_mut.ensures.variant).0 refl, c.args.asked.now.ok.0) in
    grown_keeps groups at old new e.now within c.in-Some-get_mut.ensures.value (pushed_keeps old.entries.items c.push-2.new.self.items e c.in_ok-push-2.ensures.items)

pub returns-clause-among : goal.returns-clause-among
returns-clause-among c =
    let groups = c.args.asked.now.items in
    let at = c.in-Some.at in
    let e = c.args.entry in
    let old : AskedOf = c.in-Some-get_mut.group.now in
    let new : AskedOf = record { at = old.at; entries = c.push-2.new.self } in
    let within : at < length groups = omega (arith, (c.in-Some-get_mut.ensures.variant).0 refl, c.args.asked.now.ok.0) in
    grown_among groups at old new e.now within c.in-Some-get_mut.ensures.value (pushed_among old.entries.items c.push-2.new.self.items e c.in_ok-push-2.ensures.items)

pub returns-clause-nodes : goal.returns-clause-nodes
returns-clause-nodes c =
    let groups = c.args.asked.now.items in
    let at = c.in-Some.at in
    let e = c.args.entry in
    let old : AskedOf = c.in-Some-get_mut.group.now in
    let new : AskedOf = record { at = old.at; entries = c.push-2.new.self } in
    let within : at < length groups = omega (arith, (c.in-Some-get_mut.ensures.variant).0 refl, c.args.asked.now.ok.0) in
    let of_it = own_node groups at old (rule_node e.now.item) c.in-Some-get_mut.ensures.value
    (subst (λ (l : List AskedOf). (d : AskedOf) → (get_or l at d).at ≡ rule_node e.now.item) c.as_slice.ensures.value c.in-Some.ensures.1) in
    grown_nodes groups at old new e.now within c.in-Some-get_mut.ensures.value (pushed_among old.entries.items c.push-2.new.self.items e c.in_ok-push-2.ensures.items) refl of_it c.requires
