use Rattle.pending.proofs.progress_all.carry.Goals as goal

pub returns-clause-carries : goal.returns-clause-carries
returns-clause-carries c =
    let (first, awake, walks) = c.in_ok-more.ensures.walks in
    record {
      later = c.number_for_pending-later.result;
      at = c.number_for_pending-later.ensures;
      first = first;
      awake = awake;
      begun_for = c.in_ok-more.more.items;
      walks = walks;
      roots = c.in_ok-roots.roots.items;
      by_roots = c.in_ok-roots.ensures.begun;
      asked = c.in_ok-roots.ensures.asked;
      come = c.in_ok-roots.ensures.come;
      grown = c.in_ok-put_begun.ensures;
    }
