-- Which refusals each call may give (document 01, "Refusal numbers"; document 02, P5). A walk gives those of the step.
--   refusals   of the step and the three readings, by the session's choice for octal escapes: 3 under the Rust's alone
use Rattle.std.specs.Prelude.{List, [], ◌∷◌}
use Rattle.byte.specs.declared.Refusal.{Refusal}
use Rattle.byte.specs.declared.Octal.{Octal}
use Rattle.byte.specs.Refusals.{unexpected_end_of_file, invalid_unicode_escape, octal_refusals, invalid_doc_indentation, no_property, wait}
use Rattle.byte.specs.Refusals.{list_full, pool_full, stack_full, out_of_place, too_large, bad_session, stray_indentation}
use Rattle.outcome.specs.declared.Call.{Call}

unfoldable pub refusals : Octal → Call → List Refusal
refusals octals Call.Step =
    unexpected_end_of_file ∷ invalid_unicode_escape ∷ invalid_doc_indentation ∷ no_property ∷ wait ∷ list_full ∷ pool_full ∷ stack_full
    ∷ too_large ∷ bad_session ∷ stray_indentation ∷ octal_refusals octals
refusals octals Call.Number = wait ∷ list_full ∷ pool_full ∷ out_of_place ∷ too_large ∷ bad_session ∷ []
refusals octals Call.Single = unexpected_end_of_file ∷ wait ∷ list_full ∷ pool_full ∷ out_of_place ∷ too_large ∷ bad_session ∷ []
refusals octals Call.Double =
    unexpected_end_of_file ∷ invalid_unicode_escape ∷ wait ∷ list_full ∷ pool_full ∷ out_of_place ∷ too_large ∷ bad_session
    ∷ octal_refusals octals
