use Rattle.signature.proofs.Vocabulary.{◌≡◌, None, Some, sym, ◌∙◌, ap, subst, rules, HasNoRepeats, entry_names, name_number}
use Rattle.signature.proofs.SignatureLaws.{name_at_place}
use Rattle.signature.proofs.Numbers.{absent_from_none, found_only, number_found, number_is}
use Rattle.signature.proofs.signatures.Signature.find.Goals as goal

pub returns : goal.returns
returns c =
    let number : Some c.in_ok-number.number ≡ name_number c.args.self.now c.args.text.now = c.in_ok-number.ensures ∙ number_is c.args.text.now c.self.inside.entries.entries
    c.self.invariant.0 ∙ ap (λ entries. name_number entries c.args.text.now) c.self.view_is in
    record {
      number = number;
      found = number_found c.args.self.now c.args.text.now c.in_ok-number.number (sym number);
      only = λ other is. found_only c.args.self.now c.args.text.now (record { 0 = c.in_ok-number.number }) other
          (subst (λ entries. HasNoRepeats (entry_names entries)) c.self.view_is c.self.invariant.1.distinct) (sym number) is;
      none = tt;
    }

pub returns-in_err-number : goal.returns-in_err-number
returns-in_err-number c =
    let is : c.from_residual.result ≡ None = search rules in
    let number : None ≡ name_number c.args.self.now c.args.text.now = c.in_err-number.ensures ∙ number_is c.args.text.now c.self.inside.entries.entries c.self.invariant.0 ∙ ap
    (λ entries. name_number entries c.args.text.now) c.self.view_is in
    rw is (record {
      number = number;
      found = tt;
      only = λ other there. absurd (absent_from_none c.args.self.now c.args.text.now (sym number) (name_at_place c.args.self.now c.args.text.now other.0 there));
      none = absent_from_none c.args.self.now c.args.text.now (sym number);
    })
