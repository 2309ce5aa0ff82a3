-- What is compared of a loaded map.
use Rattle.std.proofs.Common.{◌≡◌, ℕ, ◌+◌, ◌<◌, ◌≤◌, ◌^◌, ◌&&◌, Bool, true, false, List, length, Option, unwrap_or, Result, Err, refl, sym, ap, ◌∙◌, subst, arith}
use Rattle.std.proofs.Math.Path.{fun_ext}
use Rattle.std.proofs.lemmas.Bool.Decides.{nat_tests}
use Rattle.block_list.specs.declared.status.Status.{Status}
use Rattle.rescue_domain.specs.Domain.{IsIn, whole_domain}
use Rattle.rescue_domain.specs.Places.{AreAllPlaced, IsAnyBeyond}
use Rattle.rescue_verify.specs.Across.{across}
use Rattle.rescue_verify.specs.Pieces.{compared_in}
use Rattle.faulty_source.specs.SourceState.{SourceState}
use Rattle.crash_site.specs.SiteState.{SiteState}
use Rattle.rescue_verify.specs.declared.halt.Halt.{Halt}
use Rattle.rescue_verify.specs.declared.halt.Halt.TheVariants.{NoMemory as NoRoom}
use Rattle.rescue_verify.specs.declared.tally.Tally.{Tally}
use Rattle.rescue_verify.specs.Comparing.{Comparison, Compares, LossesRise as CountsCompared}
use Rattle.ddrescueverify_words.specs.declared.options.VerifyOptions.{VerifyOptions}
use Rattle.rescue_domain.proofs.PlaceLemmas.{whole_from, never_beyond}
use Rattle.ddrescueverify_cli.specs.Asked.{IsBeyond, domain_asked, comparison_of}
use Rattle.ddrescueverify_cli.specs.Counting.{StopCause}
use Rattle.ddrescueverify_cli.specs.Work.{answer_of_halt}

first_of : (a b : Bool) → (a && b) ≡ true → a ≡ true
first_of true b both = refl
first_of false b both = let no : false ≡ true = both in absurd (cc)

below_end : (pos : ℕ) (size : Option ℕ) (end x : ℕ) → whole_domain pos size end x ≡ true → x < end
below_end pos size end x h = grind (arith, nat_tests, h)

pub near_by : (o : VerifyOptions) (end to : ℕ) → to ≡ unwrap_or o.output_position o.input_position
    → AreAllPlaced (domain_asked o end) o.input_position to → IsBeyond o end → ⊥
near_by o end to at placed =
    subst (λ (t : ℕ). IsAnyBeyond (domain_asked o end) o.input_position t → ⊥) at
    (never_beyond (domain_asked o end) o.input_position to placed)

pub far_by : (o : VerifyOptions) (end to : ℕ) → to ≡ unwrap_or o.output_position o.input_position
    → IsAnyBeyond (domain_asked o end) o.input_position to → IsBeyond o end
far_by o end to at far = subst (λ (t : ℕ). IsAnyBeyond (domain_asked o end) o.input_position t) at far

module _ (o : VerifyOptions) (end : ℕ) (statuses : List Status) (covered : ℕ → Bool)
    (is : (x : ℕ) → covered x ≡ compared_in (domain_asked o end) statuses x) where
  -- each position of it is one that is asked for
  pub is_asked : (x : ℕ) → IsIn covered x → domain_asked o end x ≡ true
  is_asked x held = first_of (domain_asked o end x) _ (sym (is x) ∙ held)

  pub is_within : end ≤ length statuses → (x : ℕ) → IsIn covered x → x < length statuses
  is_within long x held =
      let below : x < end = below_end o.input_position o.size end x (is_asked x held) in
      omega (arith, below, long)

  pub is_short : end < 2 ^ 63 → (x : ℕ) → IsIn covered x → x + 1 < 2 ^ 63
  is_short short x held =
      let below : x < end = below_end o.input_position o.size end x (is_asked x held) in
      omega (arith, below, short)

  pub is_past : (x : ℕ) → IsIn covered x → o.input_position ≤ x
  is_past x held = whole_from o.input_position o.size end x (is_asked x held)

  pub are_placed : (to : ℕ) → AreAllPlaced (domain_asked o end) o.input_position to
      → AreAllPlaced covered o.input_position to
  are_placed to placed x held = placed x (is_asked x held)

  pub comparison_is : (to : ℕ) → to ≡ unwrap_or o.output_position o.input_position
      → record { compared = covered; sector = o.sector; from = o.input_position; to = to } ≡ comparison_of o end statuses
  comparison_is to at =
      ap (λ (f : ℕ → Bool). record { compared = f; sector = o.sector; from = o.input_position; to = to }) (fun_ext is)
      ∙ ap (λ (t : ℕ). record {
        compared = compared_in (domain_asked o end) statuses;
        sector = o.sector;
        from = o.input_position;
        to = t;
      }) at

  pub compares_as : (to : ℕ) → to ≡ unwrap_or o.output_position o.input_position
      → (now : List Status) (result : Result Tally Halt) (source source' : SourceState) (site site' : SiteState)
      → Compares (record { compared = covered; sector = o.sector; from = o.input_position; to = to }) statuses now result
      (across source source' site site')
      → Compares (comparison_of o end statuses) statuses now result (across source source' site site')
  compares_as to at now result source source' site site' compares =
      subst (λ (p : Comparison). Compares p statuses now result (across source source' site site')) (comparison_is to at) compares

-- a comparison that stopped is answered by what was counted
pub halt_cause : (halt : Halt) (source source' : SourceState) (site site' : SiteState)
    → source'.faults ≡ source.faults → CountsCompared (Err halt) source source' site site'
    → StopCause (answer_of_halt halt) source source' site site'
halt_cause NoRoom source source' site site' same counts =
    record { stops = tt; also = tt; counts = record { faults = same; losses = counts.0; site_faults = counts.1 } }
halt_cause _ source source' site site' same counts =
    record { stops = tt; also = tt; counts = record { faults = same; losses = counts.0; site_faults = counts.1 } }
