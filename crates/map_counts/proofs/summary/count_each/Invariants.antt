use Rattle.std.proofs.Common.{ℕ, Bool, List, [], ◌∷◌, length, ◌≡◌, ◌≤◌, ◌-◌}
use Rattle.block_list.specs.declared.status.Status.{Status}
use Rattle.block_list.specs.declared.status.Status.TheVariants.{NonTried, NonTrimmed, NonScraped, BadSector, Finished}
use Rattle.rescue_domain.specs.Parts.{covers}
use Rattle.map_counts.specs.Summary.{has_one}
use Rattle.map_counts.specs.declared.summary.Line.{Line}
use Rattle.map_counts.proofs.CountLemmas.{IsCounted}
use Rattle.map_counts.proofs.summary.count_each.Given as goal

-- a line has what has one status up to a position
abbrev pub IsLine : (domain : ℕ → Bool) → List Status → (at : ℕ) → Line → Status → Type 0
IsLine domain statuses at line s = IsCounted (has_one domain statuses (s ∷ [])) 0 at line.count line.begun

abbrev pub invariant-loop-at : goal.invariant-loop-at
invariant-loop-at g l =
    let domain = covers l.domain in
    let statuses = g.T.Tiles.statuses l.tiles in
    record {
      non_tried : IsLine domain statuses l.at l.non_tried NonTried;
      non_trimmed : IsLine domain statuses l.at l.non_trimmed NonTrimmed;
      non_scraped : IsLine domain statuses l.at l.non_scraped NonScraped;
      bad : IsLine domain statuses l.at l.bad BadSector;
      finished : IsLine domain statuses l.at l.finished Finished;
      within : l.at ≤ l.end;
      end : l.end ≡ length statuses;
    }

abbrev pub decreases-loop-at : goal.decreases-loop-at
decreases-loop-at g l = l.end - l.at
