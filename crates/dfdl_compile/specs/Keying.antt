-- Mirror for the prover: the keys of branches by what is told of elements at their numbers.
use Rattle.std.specs.Prelude.{ℕ, List, [], slice_get, Option, Some, None, option_map}
use Rattle.dfdl_documents.specs.Documents.{SchemaDocument}
use Rattle.dfdl_components.specs.declared.site.Site.{Site}
use Rattle.dfdl_components.specs.Recursion.{number_of}
use Rattle.dfdl_breaches.specs.declared.judgement.Judgement.{Judgement}
use Rattle.dfdl_rows.specs.declared.component.Dispatch.{Dispatch}
use Rattle.dfdl_compile.specs.Components.{branch_keys, dispatch_with, number_if, parts_by}
use Rattle.dfdl_compile.specs.Statements.{key_number}

-- the keys in what is told
abbrev pub keys_in : Option Judgement → List (List ℕ)
keys_in (Some judgement) = judgement.keys
keys_in None = []

-- those that are told at a number
abbrev pub keys_told : List Judgement → ℕ → List (List ℕ)
keys_told judgements number = keys_in (slice_get judgements number)

-- those that are told of an element
abbrev pub keys_at_number : List SchemaDocument → List Judgement → Site → List (List ℕ)
keys_at_number documents judgements own = keys_told judgements (number_of documents own)

-- what takes a branch by a key, of an element of which this is told, where its first statement has this number
abbrev pub dispatch_told : List SchemaDocument → List Judgement → ℕ → Site → Judgement → Option Dispatch
dispatch_told documents judgements first own judgement =
    option_map (dispatch_with (branch_keys (keys_at_number documents judgements) 0 (parts_by documents own judgement.hidden)))
    (number_if (key_number first judgement) judgement.key)
