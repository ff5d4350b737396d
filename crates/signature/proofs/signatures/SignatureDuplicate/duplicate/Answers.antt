use Rattle.signature.proofs.Vocabulary.{◌≡◌, ◌++◌, ◌∷◌, sym, ap, subst, ◌∙◌, IsSignature}
use Rattle.signature.proofs.Numbers.{new_next}
use Rattle.signature.proofs.signatures.SignatureDuplicate.duplicate.Goals as goal

pub push-requires : goal.push-requires
push-requires c =
    let first : c.loop-entry.entry-iterator ≡ c.in-Some.entry.now ∷ c.next.new.self = c.in-Some.ensures.steps in
    let whole : c.args.self.now ≡ c.loop-entry.copy ++ c.in_ok-duplicate.field-0 ∷ c.next.new.self = sym c.loop-entry.invariant ∙ ap (λ rest. c.loop-entry.copy ++ rest)
    (first ∙ ap (λ entry. entry ∷ c.next.new.self) (sym c.in_ok-duplicate.ensures)) in
    new_next c.args.self.now c.loop-entry.copy c.next.new.self c.in_ok-duplicate.field-0 (subst IsSignature c.self.view_is c.self.invariant.1) whole
