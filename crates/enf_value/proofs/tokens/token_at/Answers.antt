use Rattle.enf_value.proofs.Vocabulary.{refl, sym, subst, ◌∙◌, IsMarkAt}
use Rattle.enf_value.proofs.TokenReads.{no_token}
use Rattle.enf_value.proofs.tokens.token_at.Goals as goal

pub returns-in-None : goal.returns-in-None
returns-in-None c =
    no_token c.args.bytes.now c.args.place _ c.requires refl (sym c.is_word_start.ensures ∙ c.if-is_word_start.false) (sym c.begins_value.ensures ∙ c.if-begins_value.false)
    (subst (IsMarkAt _) c.in-None.is c.mark_at.ensures)
