-- What a run holds back, from what its parts do.
use Rattle.enf_run.proofs.Vocabulary.{◌≡◌, refl, inl, inr, Result, Ok, Err, Stream, EndsRunWith, FlushesAfter, HandsOnAll, HandsOnWork, Cut, Ending, Finish, Status}
use Rattle.std.specs.Prelude.{◌⊎◌}
use Rattle.enf_run.specs.declared.endings.Cut.TheVariants as cuts
use Rattle.enf_run.specs.declared.endings.Ending.TheVariants as endings

-- the gate was left
pub handed_same : {T : Type 0} (a : Stream) (result : Result T Ending) → HandsOnWork a a result
handed_same a result none = record { at_each_read = refl; at_the_end = inl none }

-- nothing is held back at the end
pub handed_all : {T : Type 0} (a b : Stream) (result : Result T Ending) → b.late_reads ≡ a.late_reads → b.held ≡ 0 → HandsOnWork a b result
handed_all a b result late all none = record { at_each_read = late; at_the_end = inl all }

-- the work was cut, and where memory ran out nothing is held back
pub handed_cut : {T : Type 0} (a b : Stream) (cut : Cut) → b.late_reads ≡ a.late_reads → (cut ≡ cuts.NoMemory → b.held ≡ 0) → HandsOnWork {T = T} a b (Err (endings.Cut cut))
handed_cut a b cuts.WriteFault late lacks none = record { at_each_read = late; at_the_end = inr refl }
handed_cut a b cuts.NoMemory late lacks none = record { at_each_read = late; at_the_end = inl (lacks refl) }

-- one cause is not the other
pub one_cause : (cut : Cut) → cut ≡ cuts.WriteFault → cut ≡ cuts.NoMemory → ⊥
one_cause cut fault lack = cc

-- it is so behind the last flush
pub lack_handed : (given : Result (Unit {0}) Cut) (cut : Cut) (b c : Stream) → FlushesAfter given (Err cut) b c → cut ≡ cuts.NoMemory → c.held ≡ 0
lack_handed given cut b c h lack = by h.whole
  where
    by : (c.held ≡ 0) ⊎ (◌≡◌ {A = Result (Unit {0}) Cut} (Err cut) (Err cuts.WriteFault)) → c.held ≡ 0
    by (inl all) = all
    by (inr fault) = let is : cut ≡ cuts.WriteFault = cc in absurd (one_cause cut is lack)

-- and where all is done
pub done_handed : (given : Result (Unit {0}) Cut) (b c : Stream) → FlushesAfter {T = Unit {0}} given (Ok tt) b c → c.held ≡ 0
done_handed given b c h = by h.whole
  where
    by : (c.held ≡ 0) ⊎ (◌≡◌ {A = Result (Unit {0}) Cut} (Ok tt) (Err cuts.WriteFault)) → c.held ≡ 0
    by (inl all) = all
    by (inr wrong) = absurd cc

-- what a part of the work holds back is what all of it does
pub handed_again : {T S : Type 0} (a b : Stream) (ending : Ending) → HandsOnWork {T = T} a b (Err ending) → HandsOnWork {T = S} a b (Err ending)
handed_again {T = T} {S = S} a b ending h none = record { at_each_read = (h none).at_each_read; at_the_end = by ending (h none).at_the_end }
  where
    by : (ending : Ending) → (b.held ≡ 0) ⊎ (◌≡◌ {A = Result T Ending} (Err ending) (Err (endings.Cut cuts.WriteFault)))
        → (b.held ≡ 0) ⊎ (◌≡◌ {A = Result S Ending} (Err ending) (Err (endings.Cut cuts.WriteFault)))
    by ending (inl all) = inl all
    by ending (inr is) = inr (cc)

pub handed_so : {T S : Type 0} (a b : Stream) (value : T) (result : Result S Ending) → HandsOnWork {T = T} a b (Ok value) → HandsOnWork {T = S} a b result
handed_so {T = T} a b value result h none = record { at_each_read = (h none).at_each_read; at_the_end = inl (by (h none).at_the_end) }
  where
    by : (b.held ≡ 0) ⊎ (◌≡◌ {A = Result T Ending} (Ok value) (Err (endings.Cut cuts.WriteFault))) → b.held ≡ 0
    by (inl all) = all
    by (inr wrong) = absurd cc

-- the work is done
pub handed_done : (a b : Stream) (finish : Finish) (status : Status) → HandsOnWork {T = Finish} a b (Ok finish) → HandsOnAll a b status
handed_done a b finish status h none = record { at_each_read = (h none).at_each_read; at_the_end = inl (by (h none).at_the_end) }
  where
    by : (b.held ≡ 0) ⊎ (◌≡◌ {A = Result Finish Ending} (Ok finish) (Err (endings.Cut cuts.WriteFault))) → b.held ≡ 0
    by (inl all) = all
    by (inr wrong) = absurd cc

-- or ended early
pub handed_ends : (a b report report' : Stream) (ending : Ending) (status : Status) → EndsRunWith ending report report' status
    → HandsOnWork {T = Finish} a b (Err ending) → HandsOnAll a b status
handed_ends a b report report' (endings.Cut cuts.WriteFault) status ends h none = record { at_each_read = (h none).at_each_read; at_the_end = inr ends.0 }
handed_ends a b report report' (endings.Cut cuts.NoMemory) status ends h none = record { at_each_read = (h none).at_each_read; at_the_end = inl (by (h none).at_the_end) }
  where
    by : (b.held ≡ 0) ⊎ (◌≡◌ {A = Result Finish Ending} (Err (endings.Cut cuts.NoMemory)) (Err (endings.Cut cuts.WriteFault))) → b.held ≡ 0
    by (inl all) = all
    by (inr wrong) = absurd cc
handed_ends a b report report' (endings.Refused why) status ends h none = record { at_each_read = (h none).at_each_read; at_the_end = inl (by (h none).at_the_end) }
  where
    by : (b.held ≡ 0) ⊎ (◌≡◌ {A = Result Finish Ending} (Err (endings.Refused why)) (Err (endings.Cut cuts.WriteFault))) → b.held ≡ 0
    by (inl all) = all
    by (inr wrong) = absurd cc
