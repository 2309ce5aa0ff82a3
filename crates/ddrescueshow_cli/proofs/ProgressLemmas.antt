-- The line of a rescue's progress fits.
use Rattle.std.proofs.Common.{◌≡◌, ℕ, ◌+◌, ◌≤◌, nat_lt, Bool, true, false, cond, List, ◌++◌, length, refl, arith}
use Rattle.std.proofs.lemmas.Bool.Decides.{nat_tests}
use Rattle.std.proofs.lemmas.Fmt.{length-decimal-le}
use Rattle.std.proofs.lemmas.List.{length-append}
use Rattle.mapfile_text.specs.declared.state.Current.{Current}
use Rattle.mapfile_text.specs.declared.state.Current.TheVariants.{Copying, Trimming, Scraping, Retrying, Filling, Generating, Finished}
use Rattle.rescue_rules.specs.Lines.{phase_text}
use Rattle.rescue_lines.specs.declared.lines.Head.{Head}
use Rattle.rescue_lines.specs.declared.lines.Head.TheVariants.{Phase, Last}
use Rattle.rescue_lines.specs.Lines.{IsHead}
use Rattle.ddrescueshow_cli.specs.Progress.{ProgressFits, columns, done_text, errors_text, failed_text, fit, left_text, rate_text, where_text}

fits_by : (long : Bool) (text part : List ℕ) → nat_lt columns (length text + length part) ≡ long → length text ≤ columns
    → length (cond long text (text ++ part)) ≤ columns
fits_by true text part is short = short
fits_by false text part is short =
    let room : length text + length part ≤ columns = grind (arith, nat_tests, is) in
    omega (arith, length-append text part, room)

fits : (text part : List ℕ) → length text ≤ columns → length (fit text part) ≤ columns
fits text part short = fits_by (nat_lt columns (length text + length part)) text part refl short

phase_short : (c : Current) → length (phase_text c) ≤ 10
phase_short Copying = omega arith
phase_short _ = omega arith

where_short : (h : Head) → IsHead h → length (where_text h) ≤ columns
where_short (Last true) few = omega arith
where_short (Last false) few = omega arith
where_short (Phase c n) few =
    let digits = length-decimal-le 20 n (omega arith) (omega (arith, few)) few in
    simp length-append (omega (arith, phase_short c, digits))

pub progress_fits : ProgressFits
progress_fits size rate f is =
    fits _ (left_text size rate f.rescued) (fits _ (rate_text rate) (fits _ (errors_text f.errors)
    (fits _ (failed_text f.failed) (fits _ (done_text size f.rescued) (where_short f.head is)))))
