use Rattle.std.proofs.Common.{◌≡◌, ◌≤◌, ◌+◌, ◌-◌, ◌&&◌, not, cond, ℕ, Bool, false, List, [], ◌∷◌, length, ap, ◌∙◌, refl, arith}
use Rattle.std.specs.List.{list_any}
use Rattle.block_list.specs.declared.areas.Count.{Count}
use Rattle.block_list.specs.declared.status.Status.{Status}
use Rattle.block_list.specs.declared.status.Status.TheVariants.{NonTried, NonTrimmed, NonScraped, BadSector, Finished}
use Rattle.block_list.specs.Areas.{count_of}
use Rattle.block_list.specs.Status.{same}
use Rattle.rescue_domain.specs.Parts.{covers}
use Rattle.rescue_domain.specs.Stretch.{IsConstant}
use Rattle.map_counts.specs.At.{status_at}
use Rattle.map_counts.specs.Summary.{count_from, has_one, has_status}
use Rattle.map_counts.specs.declared.summary.Line.{Line}
use Rattle.map_counts.proofs.CountLemmas.{counted_piece, counted_to, few, has_constant, none_counted, one_counted, open_none}
use Rattle.map_counts.proofs.summary.count_each.Invariants.{IsLine}
use Rattle.map_counts.proofs.summary.count_each.Goals as goal

-- a line before the first position
unbegun : (domain : ℕ → Bool) (statuses : List Status) (s : Status) → IsLine domain statuses 0
    (record { count = record { bytes = 0; areas = 0 }; begun = false }) s
unbegun domain statuses s = none_counted _ _ _ _ refl refl (open_none (has_one domain statuses (s ∷ [])) 0 (omega arith))

-- a line with a piece more
goes_on : (domain : ℕ → Bool) (statuses : List Status) (at to : ℕ) (u s : Status) (inside v : Bool) (line next : Line)
    → IsLine domain statuses at line s → IsConstant domain at to inside → IsConstant (status_at statuses) at to u
    → v ≡ (inside && list_any (λ t. same u t) (s ∷ []))
    → next.count.bytes ≡ line.count.bytes + cond v (to - at) 0
    → next.count.areas ≡ line.count.areas + cond (v && not line.begun) 1 0 → next.begun ≡ v
    → IsLine domain statuses to next s
goes_on domain statuses at to u s inside v line next l d k e b a n =
    let alike = has_constant domain statuses (s ∷ []) u at to inside d k in
    let here = counted_piece _ _ _ _ _ _ _ _ l (rw (← e) at alike) b a in
    rw (← n) at here

-- a line at the map's end
is_all : (domain : ℕ → Bool) (statuses : List Status) (at end : ℕ) (line : Line) (s : Status) → IsLine domain statuses at line s
    → end ≤ at → at ≤ end → end ≡ length statuses
    → line.count ≡ count_of (has_status domain statuses s) (length statuses)
is_all domain statuses at end line s l over within e =
    let set = has_one domain statuses (s ∷ []) in
    let to_end : count_from set 0 end ≡ count_from set 0 (length statuses) = ap (λ (n : ℕ). count_from set 0 n) e in
    counted_to _ _ _ _ _ _ l over (omega (arith, within)) ∙ to_end ∙ one_counted domain statuses s (length statuses)

pub extended-non_tried-requires-clause-bytes : goal.extended-non_tried-requires-clause-bytes
extended-non_tried-requires-clause-bytes g c =
    let k = few _ _ _ _ _ c.loop-at.invariant.non_tried in
    omega (arith, k.0, c.piece_at-piece.ensures.limit)

pub extended-non_tried-requires-clause-areas : goal.extended-non_tried-requires-clause-areas
extended-non_tried-requires-clause-areas g c =
    let k = few _ _ _ _ _ c.loop-at.invariant.non_tried in
    omega (arith, k.1, c.piece_at-piece.ensures.limit)

pub extended-non_trimmed-requires-clause-bytes : goal.extended-non_trimmed-requires-clause-bytes
extended-non_trimmed-requires-clause-bytes g c =
    let k = few _ _ _ _ _ c.loop-at.invariant.non_trimmed in
    omega (arith, k.0, c.piece_at-piece.ensures.limit)

pub extended-non_trimmed-requires-clause-areas : goal.extended-non_trimmed-requires-clause-areas
extended-non_trimmed-requires-clause-areas g c =
    let k = few _ _ _ _ _ c.loop-at.invariant.non_trimmed in
    omega (arith, k.1, c.piece_at-piece.ensures.limit)

pub extended-non_scraped-requires-clause-bytes : goal.extended-non_scraped-requires-clause-bytes
extended-non_scraped-requires-clause-bytes g c =
    let k = few _ _ _ _ _ c.loop-at.invariant.non_scraped in
    omega (arith, k.0, c.piece_at-piece.ensures.limit)

pub extended-non_scraped-requires-clause-areas : goal.extended-non_scraped-requires-clause-areas
extended-non_scraped-requires-clause-areas g c =
    let k = few _ _ _ _ _ c.loop-at.invariant.non_scraped in
    omega (arith, k.1, c.piece_at-piece.ensures.limit)

pub extended-bad-requires-clause-bytes : goal.extended-bad-requires-clause-bytes
extended-bad-requires-clause-bytes g c =
    let k = few _ _ _ _ _ c.loop-at.invariant.bad in
    omega (arith, k.0, c.piece_at-piece.ensures.limit)

pub extended-bad-requires-clause-areas : goal.extended-bad-requires-clause-areas
extended-bad-requires-clause-areas g c =
    let k = few _ _ _ _ _ c.loop-at.invariant.bad in
    omega (arith, k.1, c.piece_at-piece.ensures.limit)

pub extended-finished-requires-clause-bytes : goal.extended-finished-requires-clause-bytes
extended-finished-requires-clause-bytes g c =
    let k = few _ _ _ _ _ c.loop-at.invariant.finished in
    omega (arith, k.0, c.piece_at-piece.ensures.limit)

pub extended-finished-requires-clause-areas : goal.extended-finished-requires-clause-areas
extended-finished-requires-clause-areas g c =
    let k = few _ _ _ _ _ c.loop-at.invariant.finished in
    omega (arith, k.1, c.piece_at-piece.ensures.limit)

pub loop-at-preserved : goal.loop-at-preserved
loop-at-preserved g c =
    let p = c.piece_at-piece.ensures in
    let k = c.loop-at.invariant in
    record {
      non_tried = goes_on _ _ _ _ _ NonTried _ _ _ _ k.non_tried p.inside p.status c.has_one-is_non_tried.ensures
          c.extended-non_tried.ensures.bytes c.extended-non_tried.ensures.areas c.extended-non_tried.ensures.begun;
      non_trimmed = goes_on _ _ _ _ _ NonTrimmed _ _ _ _ k.non_trimmed p.inside p.status c.has_one-is_non_trimmed.ensures
          c.extended-non_trimmed.ensures.bytes c.extended-non_trimmed.ensures.areas c.extended-non_trimmed.ensures.begun;
      non_scraped = goes_on _ _ _ _ _ NonScraped _ _ _ _ k.non_scraped p.inside p.status c.has_one-is_non_scraped.ensures
          c.extended-non_scraped.ensures.bytes c.extended-non_scraped.ensures.areas c.extended-non_scraped.ensures.begun;
      bad = goes_on _ _ _ _ _ BadSector _ _ _ _ k.bad p.inside p.status c.has_one-is_bad.ensures
          c.extended-bad.ensures.bytes c.extended-bad.ensures.areas c.extended-bad.ensures.begun;
      finished = goes_on _ _ _ _ _ Finished _ _ _ _ k.finished p.inside p.status c.has_one-is_finished.ensures
          c.extended-finished.ensures.bytes c.extended-finished.ensures.areas c.extended-finished.ensures.begun;
      within = omega (arith, p.limit);
      end = k.end;
    }

pub loop-at-init : goal.loop-at-init
loop-at-init g c =
    let domain = covers c.args.domain.now in
    let statuses = g.T.Tiles.statuses c.args.tiles.now in
    record {
      non_tried = unbegun domain statuses NonTried;
      non_trimmed = unbegun domain statuses NonTrimmed;
      non_scraped = unbegun domain statuses NonScraped;
      bad = unbegun domain statuses BadSector;
      finished = unbegun domain statuses Finished;
      within = omega arith;
      end = c.end-end.ensures.end;
    }

pub returns : goal.returns
returns g c =
    let domain = covers c.args.domain.now in
    let statuses = g.T.Tiles.statuses c.args.tiles.now in
    let k = c.loop-at.invariant in
    rw (
      is_all domain statuses _ _ _ NonTried k.non_tried (omega arith) k.within k.end,
      is_all domain statuses _ _ _ NonTrimmed k.non_trimmed (omega arith) k.within k.end,
      is_all domain statuses _ _ _ NonScraped k.non_scraped (omega arith) k.within k.end,
      is_all domain statuses _ _ _ BadSector k.bad (omega arith) k.within k.end,
      is_all domain statuses _ _ _ Finished k.finished (omega arith) k.within k.end,
    ) refl
