-- What is known of the truth of a formula where nothing of its key happens.
use Rattle.slices.specs.declared.verdicts.Absence.{Absence}
use Rattle.slices.specs.declared.verdicts.Absence.TheVariants.{AtStep, InTrace}
use Rattle.slices.specs.declared.verdicts.Verdict.{Verdict}
use Rattle.slices.specs.declared.verdicts.Verdict.TheVariants.{Holds, Fails, Open}
use Rattle.slices.specs.meaning.Slices.{Keying}
use Rattle.enf_formula.specs.meaning.Satisfaction.{Formula, True, False, Atom, Equal, Less, AtMost, Not, And, Or}
use Rattle.enf_formula.specs.meaning.Satisfaction.{Implies, Exists, Forall, Prev, Next, Once, Historically, Since}
use Rattle.enf_formula.specs.meaning.Satisfaction.{Eventually, Always, Until}
use Rattle.std.specs.Prelude.{ℕ, Option, None, Some}

abbrev pub denied : Verdict → Verdict
denied Holds = Fails
denied Fails = Holds
denied Open = Open

abbrev pub both_hold : Verdict → Verdict → Verdict
both_hold Fails other = Fails
both_hold Holds other = other
both_hold Open Fails = Fails
both_hold Open other = Open

abbrev pub one_holds : Verdict → Verdict → Verdict
one_holds left right = denied (both_hold (denied left) (denied right))

-- of an atom whose name has no key: at a step of none of the keys nothing without a key happens either
abbrev pub verdict_of_shared : Absence → Verdict
verdict_of_shared AtStep = Fails
verdict_of_shared InTrace = Open

-- of an atom: an event that has a key is not there
abbrev pub verdict_of_atom : Absence → Option ℕ → Verdict
verdict_of_atom absence None = verdict_of_shared absence
verdict_of_atom absence (Some column) = Fails

-- of "at some time": it fails where this fails at each step of the trace
abbrev pub verdict_of_some : Absence → Verdict → Verdict
verdict_of_some InTrace Fails = Fails
verdict_of_some absence verdict = Open

-- of "at all times": it holds where this holds at each step of the trace
abbrev pub verdict_of_all : Absence → Verdict → Verdict
verdict_of_all InTrace Holds = Holds
verdict_of_all absence verdict = Open

-- of a formula of one key: where a step has no event of this key and none without a key (AtStep), and at each step of a
-- trace that has no event of this key (InTrace)
abbrev pub verdict_of : Absence → Keying → Formula → Verdict
verdict_of absence keying (True place) = Holds
verdict_of absence keying (False place) = Fails
verdict_of absence keying (Atom place name terms) = verdict_of_atom absence (keying name)
verdict_of absence keying (Equal place s t) = Open
verdict_of absence keying (Less place s t) = Open
verdict_of absence keying (AtMost place s t) = Open
verdict_of absence keying (Not place f) = denied (verdict_of absence keying f)
verdict_of absence keying (And place f g) = both_hold (verdict_of absence keying f) (verdict_of absence keying g)
verdict_of absence keying (Or place f g) = one_holds (verdict_of absence keying f) (verdict_of absence keying g)
verdict_of absence keying (Implies place f g) =
    one_holds (denied (verdict_of absence keying f)) (verdict_of absence keying g)
verdict_of absence keying (Exists place xs f) = verdict_of absence keying f
verdict_of absence keying (Forall place xs f) = verdict_of absence keying f
verdict_of absence keying (Prev place interval f) = Open
verdict_of absence keying (Next place interval f) = Open
verdict_of absence keying (Once place interval f) = verdict_of_some absence (verdict_of absence keying f)
verdict_of absence keying (Historically place interval f) = verdict_of_all absence (verdict_of absence keying f)
verdict_of absence keying (Since place interval f g) = verdict_of_some absence (verdict_of absence keying g)
verdict_of absence keying (Eventually place interval f) = verdict_of_some absence (verdict_of absence keying f)
verdict_of absence keying (Always place interval f) = verdict_of_all absence (verdict_of absence keying f)
verdict_of absence keying (Until place interval f g) = verdict_of_some absence (verdict_of absence keying g)
