-- The place at which words stop being a command.
use Rattle.std.proofs.Common.{◌≡◌, ℕ, ◌<◌, ◌≤◌, ◌-◌, List, [], ◌∷◌, length, take, drop, map, get_or}
use Rattle.std.proofs.Common.{refl, sym, ap, subst, arith, codes, ◌∙◌}
use Rattle.std.proofs.Math.Seq.{take-length}
use Rattle.dfdl_fronts.specs.Fronts.{IsPlace}
use Rattle.dfdl_run.specs.declared.command.Verb.{Verb}
use Rattle.dfdl_run.specs.declared.command.Verb.TheVariants.{Parse}
use Rattle.dfdl_run.specs.Command.{IsCommand, IsOperand, verb_word}

-- each verb has a command, with an operand of one letter
a_command : (verb : Verb) → IsCommand (verb_word verb ∷ (codes "s" ∷ []))
a_command verb =
    (record { verb = verb; schema = codes "s" }, record { spelled = refl; operand = λ same. absurd (omega arith) })

no_words : IsCommand [] → ⊥
no_words command = let same = command.1.spelled in cc

one_word : (word : List ℕ) → IsCommand (word ∷ []) → ⊥
one_word word command = let same = command.1.spelled in cc

more_words : (a b c : List ℕ) (rest : List (List ℕ)) → IsCommand (a ∷ (b ∷ (c ∷ rest))) → ⊥
more_words a b c rest command = let same = command.1.spelled in cc

no_operand : (a b : List ℕ) (rest : List (List ℕ)) → (IsOperand b → ⊥) → IsCommand (a ∷ (b ∷ rest))
    → ⊥
no_operand a b rest none command =
    let same : b ≡ command.0.schema = let spelled = command.1.spelled in cc in
    none (subst IsOperand (sym same) command.1.operand)

no_verb : (a : List ℕ) (rest : List (List ℕ)) → ((verb : Verb) → a ≡ verb_word verb → ⊥)
    → IsCommand (a ∷ rest) → ⊥
no_verb a rest none command = none command.0.verb (let spelled = command.1.spelled in cc)

place_of_none : IsPlace IsCommand [] 0
place_of_none = record {
  within = omega arith;
  before = (verb_word Parse ∷ (codes "s" ∷ []), a_command Parse);
  stops = λ less. absurd (omega arith);
  no_text = no_words;
}

place_of_verb : (a : List ℕ) (rest : List (List ℕ)) → ((verb : Verb) → a ≡ verb_word verb → ⊥)
    → IsPlace IsCommand (a ∷ rest) 0
place_of_verb a rest none = record {
  within = omega arith;
  before = (verb_word Parse ∷ (codes "s" ∷ []), a_command Parse);
  stops = λ less front. no_verb a _ none front.1;
  no_text = no_verb a rest none;
}

place_of_missing : (verb : Verb) → IsPlace IsCommand (verb_word verb ∷ []) 1
place_of_missing verb = record {
  within = omega arith;
  before = (codes "s" ∷ [], a_command verb);
  stops = λ less. absurd (omega arith);
  no_text = one_word _;
}

place_of_operand : (verb : Verb) (b : List ℕ) (rest : List (List ℕ)) → (IsOperand b → ⊥)
    → IsPlace IsCommand (verb_word verb ∷ (b ∷ rest)) 1
place_of_operand verb b rest none = record {
  within = omega arith;
  before = (codes "s" ∷ [], a_command verb);
  stops = λ less front. no_operand _ b _ none front.1;
  no_text = no_operand _ b rest none;
}

place_of_surplus : (verb : Verb) (b c : List ℕ) (rest : List (List ℕ)) → IsOperand b
    → IsPlace IsCommand (verb_word verb ∷ (b ∷ (c ∷ rest))) 2
place_of_surplus verb b c rest operand = record {
  within = omega arith;
  before = ([], (record { verb = verb; schema = b }, record { spelled = refl; operand = operand }));
  stops = λ less front. more_words _ b c _ front.1;
  no_text = more_words _ b c rest;
}

-- the words behind the first, as a slice of them is
abbrev pub behind : {W : Type 0} → List W → List W
behind words = take (length words - 1) (drop 1 words)

behind_first : {W : Type 0} (word : W) (words : List W) → behind (word ∷ words) ≡ words
behind_first {W = W} word words = grind (arith, take-length {A = W})

-- the same of words of any kind, each seen as its bytes
module _ {W : Type 0} (bytes_of : W → List ℕ) where
  pub at_none : (words : List W) → length words < 1 → IsPlace IsCommand (map bytes_of words) 0
  at_none [] none = place_of_none
  at_none (word ∷ words) none = absurd (omega arith)

  pub at_verb : (words : List W) (first : W) → 1 ≤ length words → first ≡ get_or words 0 first
      → ((verb : Verb) → bytes_of first ≡ verb_word verb → ⊥)
      → IsPlace IsCommand (map bytes_of words) 0
  at_verb [] first some is none = absurd (omega arith)
  at_verb (word ∷ words) first some is none =
      place_of_verb _ _ (λ verb same. none verb (ap bytes_of is ∙ same))

  missing : (word : W) (rest : List W) (verb : Verb) → bytes_of word ≡ verb_word verb
      → length rest < 1 → IsPlace IsCommand (map bytes_of (word ∷ rest)) 1
  missing word [] verb same none =
      subst (λ (w : List ℕ). IsPlace IsCommand (w ∷ []) 1) (sym same) (place_of_missing verb)
  missing word (other ∷ rest) verb same none = absurd (omega arith)

  wrong : (word : W) (rest : List W) (schema : W) (verb : Verb) → bytes_of word ≡ verb_word verb
      → 1 ≤ length rest → schema ≡ get_or rest 0 schema
      → (IsOperand (bytes_of schema) → ⊥) → IsPlace IsCommand (map bytes_of (word ∷ rest)) 1
  wrong word [] schema verb same some is none = absurd (omega arith)
  wrong word (other ∷ rest) schema verb same some is none =
      subst (λ (w : List ℕ). IsPlace IsCommand (w ∷ map bytes_of (other ∷ rest)) 1) (sym same)
      (place_of_operand verb _ _ (λ operand. none (subst IsOperand (ap bytes_of (sym is)) operand)))

  surplus : (word other : W) (rest : List W) (schema : W) (verb : Verb)
      → bytes_of word ≡ verb_word verb → schema ≡ other
      → IsOperand (bytes_of schema) → 0 < length rest
      → IsPlace IsCommand (map bytes_of (word ∷ (other ∷ rest))) 2
  surplus word other [] schema verb same is operand some = absurd (omega arith)
  surplus word other (third ∷ rest) schema verb same is operand some =
      subst (λ (w : List ℕ). IsPlace IsCommand (w ∷ map bytes_of (other ∷ (third ∷ rest))) 2) (sym same)
      (place_of_surplus verb _ _ _ (subst IsOperand (ap bytes_of is) operand))

  surplus_in : (word : W) (rest : List W) (schema : W) (verb : Verb)
      → bytes_of word ≡ verb_word verb → 1 ≤ length rest → schema ≡ get_or rest 0 schema
      → IsOperand (bytes_of schema) → 0 < length (behind rest)
      → IsPlace IsCommand (map bytes_of (word ∷ rest)) 2
  surplus_in word [] schema verb same some is operand more = absurd (omega arith)
  surplus_in word (other ∷ rest) schema verb same some is operand more =
      surplus word other rest schema verb same is operand (subst (λ (ws : List W). 0 < length ws) (behind_first other rest) more)

  pub at_missing : (words : List W) (first : W) (verb : Verb) → 1 ≤ length words
      → first ≡ get_or words 0 first
      → bytes_of first ≡ verb_word verb → length (behind words) < 1
      → IsPlace IsCommand (map bytes_of words) 1
  at_missing [] first verb some is same none = absurd (omega arith)
  at_missing (word ∷ rest) first verb some is same none =
      missing word rest verb (ap bytes_of (sym is)
      ∙ same) (subst (λ (ws : List W). length ws < 1) (behind_first word rest) none)

  pub at_operand : (words : List W) (first schema : W) (verb : Verb) → 1 ≤ length words
      → first ≡ get_or words 0 first
      → bytes_of first ≡ verb_word verb → 1 ≤ length (behind words)
      → schema ≡ get_or (behind words) 0 schema
      → (IsOperand (bytes_of schema) → ⊥) → IsPlace IsCommand (map bytes_of words) 1
  at_operand [] first schema verb some is same more is_schema none = absurd (omega arith)
  at_operand (word ∷ rest) first schema verb some is same more is_schema none =
      wrong word rest schema verb (ap bytes_of (sym is)
      ∙ same) (subst (λ (ws : List W). 1 ≤ length ws) (behind_first word rest) more)
      (subst (λ (ws : List W). schema ≡ get_or ws 0 schema) (behind_first word rest) is_schema) none

  pub at_surplus : (words : List W) (first schema : W) (verb : Verb) → 1 ≤ length words
      → first ≡ get_or words 0 first
      → bytes_of first ≡ verb_word verb → 1 ≤ length (behind words)
      → schema ≡ get_or (behind words) 0 schema
      → IsOperand (bytes_of schema) → 0 < length (behind (behind words))
      → IsPlace IsCommand (map bytes_of words) 2
  at_surplus [] first schema verb some is same more is_schema operand surplus = absurd (omega arith)
  at_surplus (word ∷ rest) first schema verb some is same more is_schema operand surplus =
      surplus_in word rest schema verb (ap bytes_of (sym is)
      ∙ same) (subst (λ (ws : List W). 1 ≤ length ws) (behind_first word rest) more)
      (subst (λ (ws : List W). schema ≡ get_or ws 0 schema) (behind_first word rest) is_schema) operand
      (subst (λ (ws : List W). 0 < length (behind ws)) (behind_first word rest) surplus)
