-- Output that ended in some way, and the flush behind it: what was given, at each way in which both end.
use Rattle.enf_run.proofs.Vocabulary.{◌≡◌, ℕ, ◌<◌, List, [], ◌∷◌, arith, refl, sym, ap, subst, ◌∙◌, inl, inr, Option, Result, Ok, Err, Exchange, Stream, Gave, Cut, length}
use Rattle.enf_run.proofs.Vocabulary.{AddsOrHolds, AddsOrNothing, AddsPart, CutsText, FlushesAfter, FlushesGate, WritesText, faults_behind, drill_line}
use Rattle.std.specs.Prelude.{◌⊎◌, IfErr, OnOk}
use Rattle.enf_run.proofs.CutLineLemmas.{part_none}
use Rattle.enf_run.proofs.ExchangeLemmas.{gave_none}
use Rattle.enf_run.specs.machine.RunEndings.{AddsText}
use Rattle.enf_run.specs.declared.drills.Drilled.{Drilled}
use Rattle.enf_run.specs.declared.endings.Cut.TheVariants as cuts

-- ---- the flush

pub flushed_done : (result : Result (Unit {0}) Cut) (a b : Stream) → FlushesGate result a b → FlushesAfter {T = Unit {0}} (Ok tt) result a b
flushed_done (Ok unit) a b h = record { told = h.told; ends = inl refl; whole = inl h.whole; writes = λ count is. h.writes ∙ is; reads = h.reads; late = h.late }
flushed_done (Err cut) a b h =
    record { told = h.told; ends = inr h.some_left; whole = inr (ap Err h.failed); writes = λ count is. h.writes ∙ ap (faults_behind cut) is; reads = h.reads; late = h.late }

pub flushed_lack : (a b : Stream) → FlushesGate {T = Unit {0}} (Ok tt) a b → FlushesAfter {T = Unit {0}} (Err cuts.NoMemory) (Err cuts.NoMemory) a b
flushed_lack a b h = record { told = h.told; ends = inl refl; whole = inl h.whole; writes = λ count is. h.writes ∙ is; reads = h.reads; late = h.late }

pub flushed_held : (cut : Cut) (a b : Stream) → FlushesGate {T = Unit {0}} (Err cut) a b → FlushesAfter {T = Unit {0}} (Err cuts.NoMemory) (Err cut) a b
flushed_held cut a b h =
    record { told = h.told; ends = inr h.some_left; whole = inr (ap Err h.failed); writes = λ count is. h.writes ∙ ap (faults_behind cut) is; reads = h.reads; late = h.late }

pub flushed_fault : (a : Stream) → FlushesAfter {T = Unit {0}} (Err cuts.WriteFault) (Err cuts.WriteFault) a a
flushed_fault a = record { told = refl; ends = inl refl; whole = inr refl; writes = λ count is. is; reads = refl; late = refl }

-- it ended as the output did, or failed
came_so : (given result : Result (Unit {0}) Cut) (b c : Stream) → FlushesAfter given result b c → (result ≡ given) ⊎ ((0 < c.held) × (result ≡ Err cuts.WriteFault))
came_so given result b c h = by h.ends h.whole
  where
    by : (result ≡ given) ⊎ (0 < c.held) → (c.held ≡ 0) ⊎ (result ≡ Err cuts.WriteFault) → (result ≡ given) ⊎ ((0 < c.held) × (result ≡ Err cuts.WriteFault))
    by (inl same) whole = inl same
    by (inr some) (inl none) = absurd (omega (arith, some, none))
    by (inr some) (inr fault) = inr (some, fault)

-- ---- what was given

-- of what was given, for each way in which output ends
abbrev pub Came : (Done Fault Lack : Option Exchange → Type 0) → Result (Unit {0}) Cut → Option Exchange → Type 0
Came Done Fault Lack (Ok unit) after = Done after
Came Done Fault Lack (Err cuts.WriteFault) after = Fault after
Came Done Fault Lack (Err cuts.NoMemory) after = Lack after

module _ (Done Fault Lack Held : Option Exchange → Type 0) (b c : Stream) (done : 0 < c.held → Done c.told → Held c.told)
    (fault : Fault c.told → Held c.told) (lack : 0 < c.held → Lack c.told → Held c.told) where
  same_way : (given : Result (Unit {0}) Cut) → Came Done Fault Lack given c.told → Came Done Held Lack given c.told
  same_way (Ok unit) came = came
  same_way (Err cuts.WriteFault) came = fault came
  same_way (Err cuts.NoMemory) came = came

  some_held : (given : Result (Unit {0}) Cut) → 0 < c.held → Came Done Fault Lack given c.told → Held c.told
  some_held (Ok unit) some came = done some came
  some_held (Err cuts.WriteFault) some came = fault came
  some_held (Err cuts.NoMemory) some came = lack some came

  -- behind the flush
  pub flush_came : (given result : Result (Unit {0}) Cut) → Came Done Fault Lack given b.told → FlushesAfter given result b c → Came Done Held Lack result c.told
  flush_came given result before h = by (came_so given result b c h)
    where
      came : Came Done Fault Lack given c.told
      came = subst (λ (o : Option Exchange). Came Done Fault Lack given o) (sym h.told) before

      by : (result ≡ given) ⊎ ((0 < c.held) × (result ≡ Err cuts.WriteFault)) → Came Done Held Lack result c.told
      by (inl same) = subst (λ (r : Result (Unit {0}) Cut). Came Done Held Lack r c.told) (sym same) (same_way given came)
      by (inr (some, failed)) = subst (λ (r : Result (Unit {0}) Cut). Came Done Held Lack r c.told) (sym failed) (some_held given some came)

-- ---- a text

-- what was given of a text, where so many bytes are held back
abbrev pub CameOf : (held : ℕ) → List ℕ → Option Exchange → Result (Unit {0}) Cut → Option Exchange → Type 0
CameOf held text before = Came (Gave text before) (AddsOrHolds held text before) (AddsPart text before)

text_adds : (text : List ℕ) (x y : Option Exchange) (given : Result (Unit {0}) Cut) → AddsText text given x y → Came (Gave text x) (AddsPart text x) (AddsPart text x) given y
text_adds text x y (Ok unit) adds = adds
text_adds text x y (Err cuts.WriteFault) adds = adds
text_adds text x y (Err cuts.NoMemory) adds = adds

pub text_came : (text : List ℕ) (given result : Result (Unit {0}) Cut) (a b c : Stream) → WritesText text given a b → FlushesAfter given result b c
    → CameOf c.held text a.told result c.told
text_came text given result a b c w h =
    flush_came (Gave text a.told) (AddsPart text a.told) (AddsPart text a.told) (AddsOrHolds c.held text a.told) b c (λ some whole. inr (whole, some))
    (λ part. inl part) (λ some part. inl part) given result (text_adds text a.told b.told given w.adds) h

-- nothing of a text was given, and some bytes are held back
nothing_held : (text : List ℕ) (held : ℕ) (x y : Option Exchange) → y ≡ x → 0 < held → AddsOrHolds held text x y
nothing_held [] held x y same some = inr (subst (λ (o : Option Exchange). Gave [] x o) (sym same) (gave_none x), some)
nothing_held (byte ∷ text) held x y same some =
    inl (record { front = []; part = part_none (byte ∷ text) (omega (arith)); gave = subst (λ (o : Option Exchange). Gave [] x o) (sym same) (gave_none x) })

-- or memory may have run out before any of it
abbrev pub CameOrNothing : (held : ℕ) → List ℕ → Option Exchange → Result (Unit {0}) Cut → Option Exchange → Type 0
CameOrNothing held text before = Came (Gave text before) (AddsOrHolds held text before) (AddsOrNothing text before)

log_adds : (text : List ℕ) (x y : Option Exchange) (given : Result (Unit {0}) Cut) → OnOk given (Gave text x y) → IfErr given (λ cut. CutsText text x y cut)
    → Came (Gave text x) (AddsPart text x) (AddsOrNothing text x) given y
log_adds text x y (Ok unit) whole cut = whole
log_adds text x y (Err cuts.WriteFault) whole cut = cut
log_adds text x y (Err cuts.NoMemory) whole cut = cut

pub log_came : (text : List ℕ) (given result : Result (Unit {0}) Cut) (a b c : Stream) → OnOk given (Gave text a.told b.told)
    → IfErr given (λ cut. CutsText text a.told b.told cut) → FlushesAfter given result b c → CameOrNothing c.held text a.told result c.told
log_came text given result a b c whole cut h =
    flush_came (Gave text a.told) (AddsPart text a.told) (AddsOrNothing text a.told) (AddsOrHolds c.held text a.told) b c (λ some gave. inr (gave, some))
    (λ part. inl part) lack given result (log_adds text a.told b.told given whole cut) h
  where
    lack : 0 < c.held → AddsOrNothing text a.told c.told → AddsOrHolds c.held text a.told c.told
    lack some (inl part) = inl part
    lack some (inr same) = nothing_held text c.held a.told c.told same some

-- ---- a line of a drill

-- it has something in it
pub drill_some : (found : Drilled) → 0 < length (drill_line found)
drill_some found = omega (arith)
