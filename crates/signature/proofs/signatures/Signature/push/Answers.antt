use Rattle.signature.proofs.Vocabulary.{◌≡◌, ℕ, List, [], ◌∷◌, ◌++◌, None, Vec, map, nat_eq, sym, ap, subst, ◌∙◌, pointwise, Global, insert_entry-new, IsNewEntry, AreKeyedByName, IsSignature}
use Rattle.signature.proofs.Vocabulary.{name_number, NameEntry}
use Rattle.signature.proofs.Numbers.{insert_new, keyed_push, entries_push, signature_push}
use Rattle.signature.proofs.signatures.Signature.push.Goals as goal

-- the key is the name
key_is : (c : goal.Joined-branch-3) → c.in_ok-name.name.items ≡ c.args.entry.text
key_is c = c.in_ok-name.ensures.items ∙ c.bytes.ensures.value

-- the pair went last
pairs_are : (c : goal.Joined-branch-3) → c.insert.new.self.entries ≡ c.self.inside.entries.entries ++ (c.in_ok-name.name, c.args.entry) ∷ []
pairs_are c =
    let absent : name_number (map (λ pair. pair.1) c.self.inside.entries.entries) c.in_ok-name.name.items ≡ None = (λ j. name_number (c.self.view_is j) (key_is c j)) ∙ c.requires.absent in
    c.in_ok-insert.ensures.entries
    ∙ insert_entry-new (λ (x y : Vec ℕ Global). pointwise nat_eq x.items y.items) c.self.inside.entries c.in_ok-name.name c.args.entry
    (insert_new c.self.inside.entries.entries c.in_ok-name.name c.args.entry c.self.invariant.0 absent)

pub invariant_of-self-2 : goal.invariant_of-self-2
invariant_of-self-2 c =
    let P : List (Vec ℕ Global × NameEntry) → Type 0 = λ pairs. AreKeyedByName pairs × IsSignature (map (λ pair. pair.1) pairs) in
    subst P (sym (pairs_are c)) (
      keyed_push c.self.inside.entries.entries c.in_ok-name.name c.args.entry c.self.invariant.0 (key_is c),
      subst IsSignature (sym (entries_push c.self.inside.entries.entries c.in_ok-name.name c.args.entry))
          (signature_push (map (λ pair. pair.1) c.self.inside.entries.entries) c.args.entry c.self.invariant.1
          (subst (λ entries. IsNewEntry entries c.args.entry) (sym c.self.view_is) c.requires)),
    )

pub returns-clause-ok : goal.returns-clause-ok
returns-clause-ok c =
    ap (map (λ pair. pair.1)) (pairs_are c) ∙ entries_push c.self.inside.entries.entries c.in_ok-name.name c.args.entry ∙ ap (λ entries. entries ++ c.args.entry ∷ []) c.self.view_is
