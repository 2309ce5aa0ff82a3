-- A list that is taken piece by piece.
use Rattle.std.proofs.Common.{◌≡◌, ◌⊎◌, ℕ, ◌<◌, Bool, IsTrue, List, ◌++◌, length, refl, sym, ap, ◌∙◌, inl, inr, subst, append_assoc, arith, length-append}
use Rattle.fault_count.specs.Counts.{Rose}
use Rattle.map_algebra.specs.Numbers.{list_limit}
use Rattle.rescue_console.specs.FeedState.{FeedState, Keeps}
use Rattle.program_promise.proofs.LoadLemmas.{by_tells}
use Rattle.ddrescuelog_cli.specs.declared.ending.LogEnding.{LogEnding}
use Rattle.ddrescuelog_cli.specs.declared.ending.LogEnding.TheVariants.{ListTooLong, FeedFault, NoMemory}
use Rattle.ddrescuelog_cli.specs.After.{FeedLeft}
use Rattle.ddrescuelog_cli.specs.Creating.{TakesFeedPiece, TookBytes, StopsTaking}

keeps_both : (a b c : FeedState) → Keeps a b → Keeps b c → Keeps a c
keeps_both a b c k l = record {
  tells = l.tells ∙ k.tells;
  scheduled = l.scheduled ∙ k.scheduled;
  later = omega (arith, k.later, l.later);
}

-- what was taken, and then a piece
taken_both : (bytes piece now left mid last : List ℕ) → now ≡ bytes ++ piece → left ≡ bytes ++ mid
    → mid ≡ piece ++ last → left ≡ now ++ last
taken_both bytes piece now left mid last grew first second =
    first ∙ ap (λ b. bytes ++ b) second ∙ sym (append_assoc bytes piece last) ∙ ap (λ b. b ++ last) (sym grew)

pub taken_more : (some : Bool) (bytes now : List ℕ) (old mid new : FeedState) → TookBytes bytes old mid
    → TakesFeedPiece some bytes now mid new → TookBytes now old new
taken_more some bytes now old mid new h p = record {
  keeps = keeps_both old mid new h.keeps p.keeps;
  kept = p.kept ∙ h.kept;
  taken = λ t. taken_both bytes p.piece now old.left mid.left new.left p.grew (h.taken t)
      (p.taken (subst IsTrue (sym h.keeps.tells) t));
}

pub too_long : (bytes : List ℕ) (old new : FeedState) → TookBytes bytes old new → list_limit < length bytes
    → StopsTaking ListTooLong old new
too_long bytes old new h long =
    let after : FeedLeft ListTooLong old new =
    record { keeps = h.keeps; counts = h.kept; takes = λ t. (bytes, h.taken t, long) } in
    by_tells old.tells (StopsTaking ListTooLong old new)
    (λ t. record {
      list = old.left;
      is_own = λ s. refl;
      why = inr (inr (refl, omega (arith, long, ap length (h.taken t), length-append bytes new.left)));
      after = after;
    })
    (λ n. record {
      list = bytes;
      is_own = λ s. absurd (n s);
      why = inr (inr (refl, long));
      after = after;
    })

-- what was taken before the end of the list is lost
front_taken : (bytes front left mid last : List ℕ) → left ≡ bytes ++ mid → mid ≡ front ++ last
    → left ≡ (bytes ++ front) ++ last
front_taken bytes front left mid last first second =
    first ∙ ap (λ b. bytes ++ b) second ∙ sym (append_assoc bytes front last)

starved_later : (bytes : List ℕ) (old mid new : FeedState) → TookBytes bytes old mid → FeedLeft NoMemory mid new
    → FeedLeft NoMemory old new
starved_later bytes old mid new h b = record {
  keeps = keeps_both old mid new h.keeps b.keeps;
  counts = b.counts ∙ h.kept;
  takes = λ t.
      let w = b.takes (subst IsTrue (sym h.keeps.tells) t) in
      (bytes ++ w.0, front_taken bytes w.0 old.left mid.left new.left (h.taken t) w.1);
}

broke_later : (bytes : List ℕ) (old mid new : FeedState) → TookBytes bytes old mid → FeedLeft FeedFault mid new
    → FeedLeft FeedFault old new
broke_later bytes old mid new h b = record {
  keeps = keeps_both old mid new h.keeps b.keeps;
  counts = subst (λ n. Rose n new.faults) h.kept b.counts;
  takes = λ t.
      let w = b.takes (subst IsTrue (sym h.keeps.tells) t) in
      (bytes ++ w.0, front_taken bytes w.0 old.left mid.left new.left (h.taken t) w.1);
}

pub taking_stopped : (e : LogEnding) (bytes : List ℕ) (old mid new : FeedState) → TookBytes bytes old mid
    → (e ≡ NoMemory) ⊎ (e ≡ FeedFault) → FeedLeft e mid new → StopsTaking e old new
taking_stopped e bytes old mid new h (inl is) b = record {
  list = old.left;
  is_own = λ t. refl;
  why = inl is;
  after = subst (λ x. FeedLeft x old new) (sym is)
      (starved_later bytes old mid new h (subst (λ x. FeedLeft x mid new) is b));
}
taking_stopped e bytes old mid new h (inr is) b = record {
  list = old.left;
  is_own = λ t. refl;
  why = inr (inl is);
  after = subst (λ x. FeedLeft x old new) (sym is)
      (broke_later bytes old mid new h (subst (λ x. FeedLeft x mid new) is b));
}

-- ---- the whole list
