-- The machine runs over every document, by the rules that it keeps.
use Rattle.std.proofs.Common.{◌≡◌, ℕ, ◌+◌, ◌<◌, ◌≤◌, Bool, true, false, List, [], ◌++◌}
use Rattle.std.proofs.Common.{Option, Some, None, Result, Ok, Err, refl, sym, ◌∙◌, subst, inl, inr}
use Rattle.std.proofs.Common.{arith}
use Rattle.std.proofs.lemmas.List.{append-nil}
use Rattle.std.proofs.lemmas.Bool.{eq-eqb, cases_lt}
use Rattle.dfdl_layers.specs.Tellers.{Keeps, run}
use Rattle.dfdl_markup.specs.Grammar.{is_white, spelling, Declaration, declaration_characters}
use Rattle.dfdl_markup.specs.Grammar.{mark_characters}
use Rattle.dfdl_markup.specs.Rules.{roots, MayDeclareItself}
use Rattle.dfdl_markup.specs.Machine.{AtContent, Ahead, MarkAhead, DeclarationAhead, NothingAhead}
use Rattle.dfdl_markup.specs.Machine.{State, start, step, accepts, content_step, may_declare}
use Rattle.dfdl_markup.proofs.Rest.{Last, Declared, Whole, From, Rest}
use Rattle.dfdl_markup.proofs.RunContent.{content_runs}
use Rattle.dfdl_markup.proofs.RunDeclaration.{declaration_runs}
use Rattle.dfdl_markup.proofs.RunRules.{TellsRule, run_tells}
use Rattle.dfdl_markup.proofs.RunSteps.{Ends, state}

module _ (n : ℕ) where
  -- the end of a document with one root
  accepted : (ahead : Ahead) (before begun : ℕ) → (10 < n → begun ≡ 1)
      → Ends n (Ok (state ahead (AtContent before) begun []))
  unfolding accepts
  accepted ahead before begun one less = eq-eqb begun 1 (one (omega arith))

  last_ends : (ahead : Ahead) (before : ℕ) (text : List ℕ) → Last n 0 before text
      → Ends n (run step (state ahead (AtContent before) 0 []) text)
  last_ends ahead before text last =
      subst (λ l. Ends n (run step (state ahead (AtContent before) 0 []) l))
      (sym (last.is ∙ sym (append-nil (spelling last.content))))
      (content_runs n last.content ahead 0 [] before [] last.keeps last.one_root
      (λ a b. accepted a b (0 + roots last.content) last.one_root))

  declared_ends : (ahead : Ahead) (text : List ℕ) → may_declare ahead ≡ true
      → Declared n 0 0 [] text
      → Ends n (run step (state ahead (AtContent 0) 0 []) text)
  declared_ends ahead text may declared =
      subst (λ l. Ends n (run step (state ahead (AtContent 0) 0 []) l)) (sym declared.is)
      (by declared.declaration declared.keeps)
    where
      by : (declaration : Option Declaration) → MayDeclareItself n declaration
          → Ends n (run step (state ahead (AtContent 0) 0 [])
          (declaration_characters declaration ++ declared.rest))
      by None keeps = last_ends ahead 0 declared.rest declared.close
      by (Some declaration) keeps =
          declaration_runs n ahead declaration declared.rest may keeps
          (last_ends NothingAhead 0 declared.rest declared.close)

  marked_ends : (mark : Bool) (text : List ℕ) → Declared n 0 0 [] text
      → Ends n (run step (state MarkAhead (AtContent 0) 0 []) (mark_characters mark ++ text))
  unfolding step content_step is_white
  marked_ends true text declared = declared_ends DeclarationAhead text refl declared
  marked_ends false text declared = declared_ends MarkAhead text refl declared

  pub whole_ends : (text : List ℕ) → Whole MarkAhead n 0 [] 0 text → Ends n (run step start text)
  unfolding start
  whole_ends text whole =
      subst (λ l. Ends n (run step (state MarkAhead (AtContent 0) 0 []) l)) (sym whole.is)
      (marked_ends whole.mark whole.rest whole.declared)

whole_of : (n : ℕ) (text : List ℕ) → From n start text → Whole MarkAhead n 0 [] 0 text
unfolding start
whole_of n text from = from.whole [] refl

keeps_of_ends : (n : ℕ) (answer : Result State ℕ) → Ends n answer → Keeps n answer
keeps_of_ends n (Ok t) ends = tt
keeps_of_ends n (Err m) ends = ends

keeps_of_tells : (n : ℕ) (answer : Result State ℕ) → n ≤ 3 → TellsRule answer → Keeps n answer
keeps_of_tells n (Ok t) few tells = tt
keeps_of_tells n (Err m) few tells = omega (arith, tells.0)

-- of a text that keeps the rules below n no rule below n is told
pub document_keeps : (n : ℕ) (text : List ℕ) → Rest n start text → Keeps n (run step start text)
document_keeps n text rest =
    elim (cases_lt 3 n) [
      | inl less ↦ keeps_of_ends n (run step start text)
          (whole_ends n text (whole_of n text (rest less)))
      | inr few ↦ keeps_of_tells n (run step start text) few (run_tells text start)
    ]

full_of_ends : (answer : Result State ℕ) → Ends 13 answer → TellsRule answer
    → (t : State) × (answer ≡ Ok t) × (accepts t ≡ true)
full_of_ends (Ok t) ends tells = (t, refl, ends (omega arith))
full_of_ends (Err m) ends tells = absurd (omega (arith, tells.1))

-- and one that keeps all rules is run through and accepted
pub document_full : (text : List ℕ) → Rest 13 start text
    → (t : State) × (run step start text ≡ Ok t) × (accepts t ≡ true)
document_full text rest =
    full_of_ends (run step start text) (whole_ends 13 text (whole_of 13 text (rest (omega arith))))
    (run_tells text start)
