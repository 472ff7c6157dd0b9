-- The machine runs over XML declarations.
use Rattle.std.proofs.Common.{◌≡◌, ℕ, ◌==◌, ◌<◌, ◌&&◌, ◌⊎◌, Bool, true, false}
use Rattle.std.proofs.Common.{if◌then◌else◌, List, [], ◌∷◌, ◌++◌, length, Option, Some, None}
use Rattle.std.proofs.Common.{Ok, Err, refl, sym, ap, ◌∙◌, subst, inl, inr, arith, append_assoc}
use Rattle.std.specs.List.{list_any}
use Rattle.std.specs.Str.{bytes_eq}
use Rattle.dfdl_layers.specs.Tellers.{Each, run}
use Rattle.dfdl_xml_chars.specs.Characters.{is_name_start, is_name_char, low_start_rows}
use Rattle.dfdl_xml_chars.specs.Characters.{low_name_rows}
use Rattle.dfdl_markup.specs.Grammar.{is_white, is_quote, Said, Version, Encoding, Standalone}
use Rattle.dfdl_markup.specs.Grammar.{said_word, Saying, saying_characters, optional_characters}
use Rattle.dfdl_markup.specs.Grammar.{Declaration, declaration_characters, xml_word}
use Rattle.dfdl_markup.specs.Rules.{AreWhite, is_xml, version_value}
use Rattle.dfdl_markup.specs.Rules.{SayingKeeps, yes_value, no_value}
use Rattle.dfdl_markup.specs.Rules.{SaysEncoding, SaysStandalone, DeclarationKeeps}
use Rattle.dfdl_markup.specs.Machine.{Place, AtContent, AtTarget, AtDeclaration}
use Rattle.dfdl_markup.specs.Machine.{AtSaidWord, AtSaid, AtSaidEquals, AtSaidValue}
use Rattle.dfdl_markup.specs.Machine.{Ahead, State, step}
use Rattle.dfdl_markup.specs.Machine.{content_step, opened_step, question_step, target_step}
use Rattle.dfdl_markup.specs.Machine.{may_declare, begins, declaration_step, said_step}
use Rattle.dfdl_markup.specs.Machine.{said_word_step, said_equals_step, said_values, said_character}
use Rattle.dfdl_markup.specs.Machine.{said_value_step, declaration_end_step}
use Rattle.dfdl_markup.proofs.Rest.{Follows}
use Rattle.dfdl_markup.proofs.RunNames.{white_ends, end_marks}
use Rattle.dfdl_markup.proofs.RunPieces.{target_runs}
use Rattle.dfdl_markup.proofs.RunSaid.{SaidOr, said_more, said_begins, said_whole, version_apart}
use Rattle.dfdl_markup.proofs.RunSaid.{yes_apart, no_apart, version_said, yes_said, no_said}
use Rattle.dfdl_markup.proofs.RunSaid.{encodings_apart, encoding_or}
use Rattle.dfdl_markup.proofs.RunSteps.{whites_stay, Ends, After, state, RunsFrom, goes, if_true}
use Rattle.dfdl_markup.proofs.RunSteps.{if_false}
use Rattle.dfdl_markup.proofs.RunSteps.{at_test, same_is}
use Rattle.dfdl_markup.proofs.RunTags.{quote_no_white}

saying_text : (space word before after value tail : List ℕ) (quote : ℕ)
    → (space ++ (word ++ (before ++ 61 ∷ (after ++ quote ∷ (value ++ quote ∷ []))))) ++ tail
    ≡ space ++ (word ++ (before ++ 61 ∷ (after ++ quote ∷ (value ++ quote ∷ tail))))
saying_text space word before after value tail quote = simp append_assoc

declared_text : (version encoding standalone space tail : List ℕ)
    → ((version ++ (encoding ++ (standalone ++ space))) ++ 63 ∷ 62 ∷ []) ++ tail
    ≡ version ++ (encoding ++ (standalone ++ (space ++ 63 ∷ 62 ∷ tail)))
declared_text version encoding standalone space tail = simp append_assoc

x_starts : is_name_start 120 ≡ true
unfolding is_name_start low_start_rows
x_starts = refl

m_and_l : Each (λ c. is_name_char c ≡ true) (109 ∷ 108 ∷ [])
unfolding is_name_char low_name_rows low_start_rows
m_and_l = (refl, (refl, tt))

-- from places where the document may still be declared
module _ (n : ℕ) (ahead : Ahead) where
  abbrev there : Place → State
  there place = state ahead place 0 []

  abbrev RunsAt : Place → List ℕ → Type 0
  RunsAt place text = Ends n (run step (there place) text)

  declaration_white : (last : Option Said) (spaced : Bool) (w : ℕ) → is_white w ≡ true
      → step (there (AtDeclaration last spaced)) w ≡ Ok (there (AtDeclaration last true))
  unfolding step declaration_step
  declaration_white last spaced w e = if_true (is_white w) _ _ e

  -- the value of what is said
  value_runs : (said : Said) (quote : ℕ) (read value tail : List ℕ) → SaidOr n said quote read value
      → Each (λ c. (c == quote) ≡ false) value
      → RunsAt (AtDeclaration (Some said) false) tail
      → RunsAt (AtSaidValue said quote read) (value ++ quote ∷ tail)
  unfolding step said_value_step
  value_runs said quote read [] tail may apart ends =
      subst (λ a. After n a tail) (sym (if_true (quote == quote) _ _ (same_is quote)))
      (at_test n tail (list_any (bytes_eq read) (said_values said)) _ _ (λ e. ends)
      (λ e. said_whole n said quote read may e))
  value_runs said quote read (c ∷ value) tail may apart ends =
      let next = read ++ said_character said c ∷ [] in
      subst (λ a. After n a (value ++ quote ∷ tail)) (sym (if_false (c == quote) _ _ apart.0))
      (at_test n (value ++ quote ∷ tail) (list_any (begins next) (said_values said)) _ _
      (λ e. value_runs said quote next value tail
      (said_more n said quote read c value may) apart.1 ends)
      (λ e. said_begins n said quote read c value may e))

  equals_white : (said : Said) (w : ℕ) → is_white w ≡ true
      → step (there (AtSaidEquals said)) w ≡ Ok (there (AtSaidEquals said))
  unfolding step said_equals_step
  equals_white said w e = if_true (is_white w) _ _ e

  equals_runs : (said : Said) (saying : Saying) (tail : List ℕ) → SayingKeeps saying
      → SaidOr n said saying.quote [] saying.value
      → Each (λ c. (c == saying.quote) ≡ false) saying.value
      → RunsAt (AtDeclaration (Some said) false) tail
      → RunsAt (AtSaidEquals said)
      (saying.after ++ saying.quote ∷ (saying.value ++ saying.quote ∷ tail))
  unfolding step said_equals_step
  equals_runs said saying tail keeps may apart ends =
      let closing = saying.value ++ saying.quote ∷ tail in
      whites_stay n (there (AtSaidEquals said)) (equals_white said) saying.after
      (saying.quote ∷ closing) keeps.after
      (goes n (there (AtSaidEquals said))
      (there (AtSaidValue said saying.quote [])) saying.quote closing
      (if_false (is_white saying.quote) _ _ (quote_no_white saying.quote keeps.quote)
      ∙ if_true (is_quote saying.quote) _ _ keeps.quote)
      (value_runs said saying.quote [] saying.value tail may apart ends))

  said_white : (said : Said) (w : ℕ) → is_white w ≡ true
      → step (there (AtSaid said)) w ≡ Ok (there (AtSaid said))
  unfolding step said_step
  said_white said w e = if_true (is_white w) _ _ e

  -- white space and `=` behind a word
  before_runs : (said : Said) (before tail : List ℕ) → AreWhite before
      → RunsAt (AtSaidEquals said) tail
      → RunsAt (AtSaidWord said []) (before ++ 61 ∷ tail)
  unfolding step said_word_step said_step is_white
  before_runs said [] tail are ends = ends
  before_runs said (w ∷ before) tail are ends =
      goes n (there (AtSaidWord said [])) (there (AtSaid said)) w (before ++ 61 ∷ tail)
      (if_true (is_white w) _ _ are.0)
      (whites_stay n (there (AtSaid said)) (said_white said) before (61 ∷ tail) are.1 ends)

  word_runs : (said : Said) (left tail : List ℕ) → RunsAt (AtSaidWord said []) tail
      → RunsAt (AtSaidWord said left) (left ++ tail)
  unfolding step said_word_step
  word_runs said [] tail ends = ends
  word_runs said (w ∷ left) tail ends =
      goes n (there (AtSaidWord said (w ∷ left))) (there (AtSaidWord said left)) w (left ++ tail)
      (if_true (w == w) _ _ (same_is w)) (word_runs said left tail ends)

  -- the word that comes next
  next_word : (last : Option Said) (said : Said) (text : List ℕ) → Follows last said
      → RunsAt (AtSaidWord said []) text
      → RunsAt (AtDeclaration last true) (said_word said ++ text)
  unfolding step declaration_step said_word is_white
  next_word None Version text follows ends =
      word_runs Version (101 ∷ 114 ∷ 115 ∷ 105 ∷ 111 ∷ 110 ∷ []) text ends
  next_word None Encoding text follows ends = absurd follows
  next_word None Standalone text follows ends = absurd follows
  next_word (Some Version) Encoding text follows ends =
      word_runs Encoding (110 ∷ 99 ∷ 111 ∷ 100 ∷ 105 ∷ 110 ∷ 103 ∷ []) text ends
  next_word (Some Version) Standalone text follows ends =
      word_runs Standalone (116 ∷ 97 ∷ 110 ∷ 100 ∷ 97 ∷ 108 ∷ 111 ∷ 110 ∷ 101 ∷ []) text ends
  next_word (Some Encoding) Standalone text follows ends =
      word_runs Standalone (116 ∷ 97 ∷ 110 ∷ 100 ∷ 97 ∷ 108 ∷ 111 ∷ 110 ∷ 101 ∷ []) text ends
  next_word (Some Version) Version text follows ends = absurd follows
  next_word (Some Encoding) Version text follows ends = absurd follows
  next_word (Some Encoding) Encoding text follows ends = absurd follows
  next_word (Some Standalone) said text follows ends = absurd follows

  -- what is said, behind any white space
  said_runs : (last : Option Said) (said : Said) (saying : Saying) (space tail : List ℕ)
      → Follows last said → SayingKeeps saying → AreWhite space
      → SaidOr n said saying.quote [] saying.value
      → Each (λ c. (c == saying.quote) ≡ false) saying.value
      → RunsAt (AtDeclaration (Some said) false) tail
      → RunsAt (AtDeclaration last true)
      (space ++ (said_word said ++ (saying.before ++ 61 ∷ (saying.after
      ++ saying.quote ∷ (saying.value ++ saying.quote ∷ tail)))))
  said_runs last said saying space tail follows keeps are may apart ends =
      let valued = saying.after ++ saying.quote ∷ (saying.value ++ saying.quote ∷ tail) in
      whites_stay n (there (AtDeclaration last true)) (declaration_white last true) space
      (said_word said ++ (saying.before ++ 61 ∷ valued)) are
      (next_word last said (saying.before ++ 61 ∷ valued) follows
      (before_runs said saying.before valued keeps.before
      (equals_runs said saying tail keeps may apart ends)))

  -- a place that white space leaves for the one behind it, before what is said
  saying_runs : (place : Place) (last : Option Said) (said : Said) (saying : Saying) (tail : List ℕ)
      → ((w : ℕ) → is_white w ≡ true → step (there place) w ≡ Ok (there (AtDeclaration last true)))
      → Follows last said → SayingKeeps saying → SaidOr n said saying.quote [] saying.value
      → Each (λ c. (c == saying.quote) ≡ false) saying.value
      → RunsAt (AtDeclaration (Some said) false) tail
      → RunsAt place (saying_characters said saying ++ tail)
  saying_runs place last said saying tail white follows keeps may apart ends =
      subst (λ l. RunsAt place l)
      (sym (saying_text saying.space
      (said_word said) saying.before saying.after saying.value tail saying.quote))
      (by saying.space keeps.some_space keeps.space)
    where
      valued : List ℕ
      valued = said_word said ++
          (saying.before ++ 61 ∷
          (saying.after ++ saying.quote ∷ (saying.value ++ saying.quote ∷ tail)))

      by : (space : List ℕ) → 0 < length space → AreWhite space → RunsAt place (space ++ valued)
      by [] some are = absurd (omega arith)
      by (w ∷ space) some are =
          goes n (there place) (there (AtDeclaration last true)) w (space ++ valued) (white w are.0)
          (said_runs last said saying space tail follows keeps are.1 may apart ends)

  version_runs : (place : Place) (saying : Saying) (tail : List ℕ)
      → ((w : ℕ) → is_white w ≡ true → step (there place) w ≡ Ok (there (AtDeclaration None true)))
      → SayingKeeps saying → saying.value ≡ version_value
      → RunsAt (AtDeclaration (Some Version) false) tail
      → RunsAt place (saying_characters Version saying ++ tail)
  version_runs place saying tail white keeps is ends =
      saying_runs place None Version saying tail white tt keeps
      (subst (λ v. SaidOr n Version saying.quote [] v) (sym is) (inl version_said))
      (subst (λ v. Each (λ c. (c == saying.quote) ≡ false) v) (sym is)
      (version_apart saying.quote keeps.quote))
      ends

  encoding_runs : (encoding : Option Saying) (tail : List ℕ) → SaysEncoding n encoding
      → ((said : Said) (spaced : Bool) → Follows (Some said) Standalone
      → RunsAt (AtDeclaration (Some said) spaced) tail)
      → RunsAt (AtDeclaration (Some Version) false) (optional_characters Encoding encoding ++ tail)
  encoding_runs None tail says ends = ends Version false tt
  encoding_runs (Some saying) tail says ends =
      saying_runs (AtDeclaration (Some Version) false) (Some Version) Encoding saying tail
      (declaration_white (Some Version) false) tt says.0
      (encoding_or n saying.quote saying.value says.1)
      (encodings_apart saying.quote saying.value says.0.quote says.1.0) (ends Encoding false tt)

  standalone_runs : (last : Said) (spaced : Bool) (standalone : Option Saying) (tail : List ℕ)
      → Follows (Some last) Standalone → SaysStandalone standalone
      → ((said : Said) (spaced : Bool) → RunsAt (AtDeclaration (Some said) spaced) tail)
      → RunsAt (AtDeclaration (Some last) spaced)
      (optional_characters Standalone standalone ++ tail)
  standalone_runs last spaced None tail follows says ends = ends last spaced
  standalone_runs last spaced (Some saying) tail follows says ends =
      saying_runs (AtDeclaration (Some last) spaced) (Some last) Standalone saying tail
      (declaration_white (Some last) spaced) follows says.0 (may says.1) (apart says.1)
      (ends Standalone false)
    where
      may : (saying.value ≡ yes_value) ⊎ (saying.value ≡ no_value)
          → SaidOr n Standalone saying.quote [] saying.value
      may (inl is) = subst (λ v. SaidOr n Standalone saying.quote [] v) (sym is) (inl yes_said)
      may (inr is) = subst (λ v. SaidOr n Standalone saying.quote [] v) (sym is) (inl no_said)

      apart : (saying.value ≡ yes_value) ⊎ (saying.value ≡ no_value)
          → Each (λ c. (c == saying.quote) ≡ false) saying.value
      apart (inl is) = subst (λ v. Each (λ c. (c == saying.quote) ≡ false) v) (sym is)
          (yes_apart saying.quote says.0.quote)
      apart (inr is) = subst (λ v. Each (λ c. (c == saying.quote) ≡ false) v) (sym is)
          (no_apart saying.quote says.0.quote)

  -- `?>`
  end_closes : (last : Said) (spaced : Bool) (tail : List ℕ) → RunsFrom n 0 [] (AtContent 0) tail
      → RunsAt (AtDeclaration (Some last) spaced) (63 ∷ 62 ∷ tail)
  unfolding step declaration_step declaration_end_step is_white
  end_closes last spaced tail ends = ends

  end_runs : (last : Said) (spaced : Bool) (space tail : List ℕ) → AreWhite space
      → RunsFrom n 0 [] (AtContent 0) tail
      → RunsAt (AtDeclaration (Some last) spaced) (space ++ 63 ∷ 62 ∷ tail)
  end_runs last spaced [] tail are ends = end_closes last spaced tail ends
  end_runs last spaced (w ∷ space) tail are ends =
      goes n (there (AtDeclaration (Some last) spaced)) (there (AtDeclaration (Some last) true)) w
      (space ++ 63 ∷ 62 ∷ tail) (declaration_white (Some last) spaced w are.0)
      (whites_stay n (there (AtDeclaration (Some last) true))
      (declaration_white (Some last) true) space
      (63 ∷ 62 ∷ tail) are.1 (end_closes last true tail ends))

  -- the word `xml`
  xml_white : may_declare ahead ≡ true → (w : ℕ) → is_white w ≡ true
      → step (there (AtTarget xml_word)) w ≡ Ok (there (AtDeclaration None true))
  unfolding step target_step xml_word is_xml
  xml_white may w e =
      if_false (is_name_char w) _ _ (white_ends w e).no_char
      ∙ (if_true (is_white w) _ _ e
      ∙ ap (λ b. if b && true then Ok (there (AtDeclaration None true)) else Err 3) may)

  inside_text : (declaration : Declaration) (tail : List ℕ)
      → declaration_characters (Some declaration) ++ tail
      ≡ 60 ∷ 63 ∷ 120 ∷ 109 ∷ 108 ∷ (saying_characters Version declaration.version
      ++ (optional_characters Encoding declaration.encoding
      ++ (optional_characters Standalone declaration.standalone ++
      (declaration.space ++ 63 ∷ 62 ∷ tail))))
  unfolding xml_word
  inside_text declaration tail =
      ap (λ l. 60 ∷ 63 ∷ 120 ∷ 109 ∷ 108 ∷ l)
      (declared_text (saying_characters Version declaration.version)
      (optional_characters Encoding declaration.encoding)
      (optional_characters Standalone declaration.standalone) declaration.space tail)

  pub declaration_runs : (declaration : Declaration) (tail : List ℕ) → may_declare ahead ≡ true
      → DeclarationKeeps n declaration → RunsFrom n 0 [] (AtContent 0) tail
      → RunsAt (AtContent 0) (declaration_characters (Some declaration) ++ tail)
  unfolding step content_step opened_step question_step xml_word
  declaration_runs declaration tail may keeps ends =
      let version = saying_characters Version declaration.version in
      let last = declaration.space ++ 63 ∷ 62 ∷ tail in
      let standalone = optional_characters Standalone declaration.standalone ++ last in
      let encoding = optional_characters Encoding declaration.encoding ++ standalone in
      subst (λ l. RunsAt (AtContent 0) l) (sym (inside_text declaration tail))
      (subst (λ a. After n a (120 ∷ 109 ∷ 108 ∷ (version ++ encoding)))
      (sym (if_false (is_name_start 63) _ _ end_marks.question.no_start))
      (subst (λ a. After n a (109 ∷ 108 ∷ (version ++ encoding)))
      (sym (if_true (is_name_start 120) _ _ x_starts))
      (target_runs n 0 [] ahead (120 ∷ []) (109 ∷ 108 ∷ []) (version ++ encoding) m_and_l
      (version_runs (AtTarget xml_word) declaration.version encoding
      (xml_white may) keeps.version keeps.number
      (encoding_runs declaration.encoding standalone keeps.encoding
      (λ said spaced follows. standalone_runs said spaced declaration.standalone last follows
      keeps.standalone
      (λ said spaced. end_runs said spaced declaration.space tail keeps.space ends)))))))
