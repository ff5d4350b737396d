-- The operators of formulas from the last in pre-order to the first: each comes just after those of its operands.
use Rattle.past_state.proofs.Vocabulary.{◌≡◌, ◌∙◌, List, [], ◌∷◌, ◌++◌, reverse, refl, sym, ap, subst, append_assoc, drop-append_seam, reverse-append, Formula, True, False, Atom, Equal, Less, AtMost}
use Rattle.past_state.proofs.Vocabulary.{Not, And, Or, Implies, Exists, Forall, Prev, Next, Once, Historically, Since, Eventually, Always, Until, outermost, operators, all_operators, all_outermost}
use Rattle.past_state.proofs.Vocabulary.{inner, AreInsideOut}
use Rattle.past_state.proofs.OuterOperators.{outer_onto}

-- the operators of a list come just after others, and leave these on top
pub record Goes (before fs after : List Formula) : Type 0 where
  pub leaves : (more : List Formula) → outer_onto before (fs ++ more) ≡ outer_onto after more
  pub ordered : (more : List Formula) → AreInsideOut after more → AreInsideOut before (fs ++ more)

goes_none : (before : List Formula) → Goes before [] before
goes_none before = record { leaves = λ more. refl; ordered = λ more order. order }

goes_then : (before fs middle gs after : List Formula) → Goes before fs middle → Goes middle gs after → Goes before (fs ++ gs) after
goes_then before fs middle gs after first second = record {
  leaves = λ more. ap (outer_onto before) (append_assoc fs gs more) ∙ first.leaves (gs ++ more) ∙ second.leaves more;
  ordered = λ more order. subst (AreInsideOut before) (sym (append_assoc fs gs more)) (first.ordered (gs ++ more) (second.ordered more order));
}

-- an operator after those of its operands
goes_up : (f : Formula) (before fs : List Formula) → Goes before fs (inner f ++ before) → Goes before (fs ++ f ∷ []) (f ∷ before)
goes_up f before fs inside = goes_then before fs (inner f ++ before) (f ∷ []) (f ∷ before) inside (record {
  leaves = λ more. ap (λ l. outer_onto (f ∷ l) more) (drop-append_seam (inner f) before);
  ordered = λ more order. ((before, refl), subst (λ l. AreInsideOut (f ∷ l) more) (sym (drop-append_seam (inner f) before)) order);
})

onto : (f : Formula) (before fs : List Formula) → Goes before (reverse fs) (inner f ++ before) → Goes before (reverse (f ∷ fs)) (f ∷ before)
onto f before fs inside = subst (λ l. Goes before l (f ∷ before)) (sym (reverse-append (f ∷ []) fs)) (goes_up f before (reverse fs) inside)

both : (before gs hs front back : List Formula) → Goes before (reverse hs) (back ++ before) → Goes (back ++ before) (reverse gs) (front ++ (back ++ before))
    → Goes before (reverse (gs ++ hs)) ((front ++ back) ++ before)
both before gs hs front back second first =
    subst (λ l. Goes before l ((front ++ back) ++ before)) (sym (reverse-append gs hs))
    (subst (Goes before (reverse hs ++ reverse gs)) (sym (append_assoc front back before)) (goes_then before (reverse hs) (back ++ before) (reverse gs) (front ++ (back ++ before)) second first))

pub goes : (f : Formula) (before : List Formula) → Goes before (reverse (operators f)) (outermost f ++ before)
goes (True place) before = goes_none before
goes (False place) before = goes_none before
goes (Atom place name terms) before = goes_none before
goes (Equal place s t) before = goes_none before
goes (Less place s t) before = goes_none before
goes (AtMost place s t) before = goes_none before
goes (Not place g) before = goes g before
goes (And place g h) before = both before (operators g) (operators h) (outermost g) (outermost h) (goes h before) (goes g (outermost h ++ before))
goes (Or place g h) before = both before (operators g) (operators h) (outermost g) (outermost h) (goes h before) (goes g (outermost h ++ before))
goes (Implies place g h) before = both before (operators g) (operators h) (outermost g) (outermost h) (goes h before) (goes g (outermost h ++ before))
goes (Exists place xs g) before = goes g before
goes (Forall place xs g) before = goes g before
goes (Prev place interval g) before = onto (Prev place interval g) before (operators g) (goes g before)
goes (Once place interval g) before = onto (Once place interval g) before (operators g) (goes g before)
goes (Historically place interval g) before = onto (Historically place interval g) before (operators g) (goes g before)
goes (Since place interval g h) before = onto (Since place interval g h) before (operators g ++ operators h)
    (both before (operators g) (operators h) (outermost g) (outermost h) (goes h before) (goes g (outermost h ++ before)))
goes (Next place interval g) before = goes_none before
goes (Eventually place interval g) before = goes_none before
goes (Always place interval g) before = goes_none before
goes (Until place interval g h) before = goes_none before

pub all_go : (fs : List Formula) (before : List Formula) → Goes before (reverse (all_operators fs)) (all_outermost fs ++ before)
all_go [] before = goes_none before
all_go (f ∷ fs) before = both before (operators f) (all_operators fs) (outermost f) (all_outermost fs) (all_go fs before) (goes f (all_outermost fs ++ before))
