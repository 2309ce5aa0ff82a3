-- The picture of what was read is that of the maps.
use Rattle.std.proofs.Common.{◌≡◌, ℕ, Bool, List, length, Option, ap, ◌∙◌}
use Rattle.std.proofs.Math.Path.{fun_ext}
use Rattle.block_list.specs.declared.block.Range.{Range}
use Rattle.block_list.specs.declared.status.Status.{Status}
use Rattle.rescue_domain.specs.Parts.{covers}
use Rattle.ddrescueshow_words.specs.Command.{Command}
use Rattle.ddrescueshow_cli.specs.declared.form.Form.{Form}
use Rattle.ddrescueshow_cli.specs.declared.frame.Frame.{Frame}
use Rattle.ddrescueshow_cli.specs.Cells.{frame_of}
use Rattle.ddrescueshow_cli.specs.Picture.{form_of, picture_text}
use Rattle.ddrescueshow_cli.specs.Work.{Maps, domain_of, text_of}

abbrev pub maps_of : List Status → Option (List Status) → Maps
maps_of statuses domain = record { statuses = statuses; domain = domain }

pub shown_text : (terminal : Bool) (c : Command) (statuses : List Status) (map : Option (List Status)) (parts : List Range)
    (form : Form) (f : Frame) (text : List ℕ) → form ≡ form_of c.options terminal
    → f ≡ frame_of c.options (length statuses)
    → ((x : ℕ) → covers parts x ≡ domain_of c (maps_of statuses map) x)
    → text ≡ picture_text form f (covers parts) statuses → text ≡ text_of terminal c (maps_of statuses map)
shown_text terminal c statuses map parts form f text is_form is_frame same is =
    is ∙ ap (λ (d : ℕ → Bool). picture_text form f d statuses) (fun_ext same)
    ∙ ap (λ (g : Frame). picture_text form g (domain_of c (maps_of statuses map)) statuses) is_frame
    ∙ ap (λ (k : Form). picture_text k (frame_of c.options (length statuses)) (domain_of c (maps_of statuses map)) statuses)
    is_form
