use Rattle.sleepers.proofs.Vocabulary.{Contains, inr, ap, sym, subst, Noted}
use Rattle.sleepers.proofs.wake_index.Index.let_go.Goals as goal

pub returns-in-Some : goal.returns-in-Some
returns-in-Some c = record {
  patterns = λ pair there. c.remove_each.ensures pair (subst (λ (n : Noted). Contains n.patterns pair) (sym c.self.view_is) there);
  ends = λ pair there. c.remove.ensures pair (subst (λ (n : Noted). Contains n.ends pair) (sym c.self.view_is) there);
  shapes = λ shape there. subst (λ (n : Noted). Contains n.shapes shape) (sym c.self.view_is) there;
  is_begun = ap (λ (n : Noted). n.is_begun) c.self.view_is;
  seed = ap (λ (n : Noted). n.seed) c.self.view_is;
}

pub returns-in_default : goal.returns-in_default
returns-in_default c = record {
  patterns = λ pair there. inr (subst (λ (n : Noted). Contains n.patterns pair) (sym c.self.view_is) there);
  ends = λ pair there. c.remove.ensures pair (subst (λ (n : Noted). Contains n.ends pair) (sym c.self.view_is) there);
  shapes = λ shape there. subst (λ (n : Noted). Contains n.shapes shape) (sym c.self.view_is) there;
  is_begun = ap (λ (n : Noted). n.is_begun) c.self.view_is;
  seed = ap (λ (n : Noted). n.seed) c.self.view_is;
}
