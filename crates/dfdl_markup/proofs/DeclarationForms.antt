-- The XML declaration as it is written: how it grows and ends.
use Rattle.std.proofs.Common.{◌≡◌, ℕ, ◌⊎◌, true, List, [], ◌∷◌, ◌++◌, Option, Some, None, refl, sym}
use Rattle.std.proofs.Common.{ap, ◌∙◌, append_assoc, append-nil}
use Rattle.dfdl_markup.specs.Grammar.{is_quote, Said, Version, Encoding, Standalone, said_word}
use Rattle.dfdl_markup.specs.Grammar.{Saying, saying_characters, optional_characters, Declaration}
use Rattle.dfdl_markup.specs.Grammar.{xml_word, declaration_inside}
use Rattle.dfdl_markup.specs.Rules.{AreWhite, SayingKeeps, EncodingKeeps, DeclarationKeeps}
use Rattle.dfdl_markup.specs.Rules.{version_value, yes_value, no_value}
use Rattle.dfdl_markup.proofs.Rest.{WroteSaid, WroteNone, WroteVersion, WroteEncoding}
use Rattle.dfdl_markup.proofs.Rest.{WroteStandalone, Follows, WroteSaying}

module _ (more : List ℕ) where
  behind_two : (a b : List ℕ) → (60 ∷ 63 ∷ (a ++ b)) ++ more ≡ 60 ∷ 63 ∷ (a ++ (b ++ more))
  behind_two a b = ap (λ l. 60 ∷ 63 ∷ l) (append_assoc a b more)

  behind_three : (a b c : List ℕ)
      → (60 ∷ 63 ∷ (a ++ (b ++ c))) ++ more ≡ 60 ∷ 63 ∷ (a ++ (b ++ (c ++ more)))
  behind_three a b c =
      behind_two a (b ++ c) ∙ ap (λ l. 60 ∷ 63 ∷ (a ++ l)) (append_assoc b c more)

  behind_four : (a b c d : List ℕ)
      → (60 ∷ 63 ∷ (a ++ (b ++ (c ++ d)))) ++ more ≡ 60 ∷ 63 ∷ (a ++ (b ++ (c ++ (d ++ more))))
  behind_four a b c d =
      behind_three a b (c ++ d) ∙ ap (λ l. 60 ∷ 63 ∷ (a ++ (b ++ l))) (append_assoc c d more)

  behind_five : (a b c d e : List ℕ)
      → (60 ∷ 63 ∷ (a ++ (b ++ (c ++ (d ++ e))))) ++ more
      ≡ 60 ∷ 63 ∷ (a ++ (b ++ (c ++ (d ++ (e ++ more)))))
  behind_five a b c d e =
      behind_four a b c (d ++ e) ∙ ap (λ l. 60 ∷ 63 ∷ (a ++ (b ++ (c ++ l))))
      (append_assoc d e more)

  -- more white space behind what was said
  pub said_more : (n : ℕ) (raw space : List ℕ) (last : Option Said) → WroteSaid n raw last space
      → WroteSaid n (raw ++ more) last (space ++ more)
  said_more n raw _ None (WroteNone space is) =
      WroteNone (space ++ more) (ap (λ l. l ++ more) is ∙ behind_two xml_word space)
  said_more n raw _ (Some Version) (WroteVersion version space keeps number is) =
      WroteVersion version (space ++ more) keeps number
      (ap (λ l. l ++ more) is ∙ behind_three xml_word (saying_characters Version version) space)
  said_more n raw _ (Some Encoding)
      (WroteEncoding version encoding space keeps number also value is) =
      WroteEncoding version encoding (space ++ more) keeps number also value
      (ap (λ l. l ++ more) is
      ∙ behind_four xml_word (saying_characters Version version)
      (saying_characters Encoding encoding) space)
  said_more n raw _ (Some Standalone)
      (WroteStandalone version standalone encoding space keeps number says alone is) =
      WroteStandalone version standalone encoding (space ++ more) keeps number says alone
      (ap (λ l. l ++ more) is
      ∙ behind_five xml_word (saying_characters Version version)
      (optional_characters Encoding encoding) (saying_characters Standalone standalone) space)

  -- what is begun to be said goes on
  pub saying_more : (n : ℕ) (said : Said) (inside raw : List ℕ) → WroteSaying n said inside raw
      → WroteSaying n said (inside ++ more) (raw ++ more)
  saying_more n said inside raw wrote = record {
    last = wrote.last;
    front = wrote.front;
    space = wrote.space;
    wrote = wrote.wrote;
    white = wrote.white;
    some_space = wrote.some_space;
    follows = wrote.follows;
    is = ap (λ l. l ++ more) wrote.is ∙ append_assoc wrote.front inside more;
  }

-- a declaration that says so much
pub record Declares (n : ℕ) (raw : List ℕ) : Type 0 where
  pub declaration : Declaration
  pub keeps : DeclarationKeeps n declaration
  pub is : raw ≡ 60 ∷ 63 ∷ (xml_word ++ declaration_inside declaration)

-- behind what must be said a declaration may end
pub declares_said : (n : ℕ) (raw space : List ℕ) (said : Said) → WroteSaid n raw (Some said) space
    → AreWhite space → Declares n raw
declares_said n raw _ Version (WroteVersion version space keeps number is) white = record {
  declaration = record { version = version; encoding = None; standalone = None; space = space };
  keeps = record {
    version = keeps;
    number = number;
    encoding = tt;
    standalone = tt;
    space = white;
  };
  is = is;
}
declares_said n raw _ Encoding
    (WroteEncoding version encoding space keeps number also value is) white = record {
      declaration = record {
        version = version;
        encoding = Some encoding;
        standalone = None;
        space = space;
      };
      keeps = record {
        version = keeps;
        number = number;
        encoding = (also, value);
        standalone = tt;
        space = white;
      };
      is = is;
    }
declares_said n raw _ Standalone
    (WroteStandalone version standalone encoding space keeps number says alone is) white = record {
      declaration = record {
        version = version;
        encoding = encoding;
        standalone = Some standalone;
        space = space;
      };
      keeps = record {
        version = keeps;
        number = number;
        encoding = says;
        standalone = alone;
        space = white;
      };
      is = is;
    }

-- what may be said, by the rules below n
abbrev pub SaidKeeps : ℕ → Said → List ℕ → Type 0
SaidKeeps n Version value = value ≡ version_value
SaidKeeps n Encoding value = EncodingKeeps n value
SaidKeeps n Standalone value = (value ≡ yes_value) ⊎ (value ≡ no_value)

-- all that is written of it but the white space
abbrev pub behind_space : Said → Saying → List ℕ
behind_space said saying =
    said_word said ++ (saying.before ++ 61 ∷ (saying.after
    ++ saying.quote ∷ (saying.value ++ saying.quote ∷ [])))

-- the white space, what is said, and no white space behind it
spaced_two : (a space text : List ℕ)
    → (60 ∷ 63 ∷ (a ++ space)) ++ text ≡ 60 ∷ 63 ∷ (a ++ ((space ++ text) ++ []))
spaced_two a space text =
    behind_two text a space ∙ ap (λ l. 60 ∷ 63 ∷ (a ++ l)) (sym (append-nil (space ++ text)))

spaced_three : (a b space text : List ℕ)
    → (60 ∷ 63 ∷ (a ++ (b ++ space))) ++ text
    ≡ 60 ∷ 63 ∷ (a ++ (b ++ ((space ++ text) ++ [])))
spaced_three a b space text =
    behind_three text a b space
    ∙ ap (λ l. 60 ∷ 63 ∷ (a ++ (b ++ l))) (sym (append-nil (space ++ text)))

spaced_four : (a b c space text : List ℕ)
    → (60 ∷ 63 ∷ (a ++ (b ++ (c ++ space)))) ++ text
    ≡ 60 ∷ 63 ∷ (a ++ (b ++ (c ++ ((space ++ text) ++ []))))
spaced_four a b c space text =
    behind_four text a b c space
    ∙ ap (λ l. 60 ∷ 63 ∷ (a ++ (b ++ (c ++ l)))) (sym (append-nil (space ++ text)))

-- behind the closing quote
said_closed : (n : ℕ) (said : Said) (last : Option Said) (front space raw : List ℕ)
    (saying : Saying) → saying.space ≡ space → WroteSaid n front last space → Follows last said
    → SayingKeeps saying → SaidKeeps n said saying.value
    → raw ≡ front ++ behind_space said saying → WroteSaid n raw (Some said) []
said_closed n Version None front _ raw saying same (WroteNone space is) follows keeps value so =
    WroteVersion saying [] keeps value
    (so ∙ (ap (λ l. l ++ behind_space Version saying) is
    ∙ (spaced_two xml_word space (behind_space Version saying)
    ∙ ap (λ l. 60 ∷ 63 ∷ (xml_word ++ ((l ++ behind_space Version saying) ++ []))) (sym same))))
said_closed n Encoding (Some Version) front _ raw saying same
    (WroteVersion version space first number is) follows keeps value so =
    WroteEncoding version saying [] first number keeps value
    (so ∙ (ap (λ l. l ++ behind_space Encoding saying) is
    ∙ (spaced_three xml_word (saying_characters Version version) space
    (behind_space Encoding saying)
    ∙ ap (λ l. 60 ∷ 63 ∷ (xml_word ++ (saying_characters Version version
    ++ ((l ++ behind_space Encoding saying) ++ [])))) (sym same))))
said_closed n Standalone (Some Version) front _ raw saying same
    (WroteVersion version space first number is) follows keeps value so =
    WroteStandalone version saying None [] first number tt (keeps, value)
    (so ∙ (ap (λ l. l ++ behind_space Standalone saying) is
    ∙ (spaced_three xml_word (saying_characters Version version) space
    (behind_space Standalone saying)
    ∙ ap (λ l. 60 ∷ 63 ∷ (xml_word ++ (saying_characters Version version
    ++ ((l ++ behind_space Standalone saying) ++ [])))) (sym same))))
said_closed n Standalone (Some Encoding) front _ raw saying same
    (WroteEncoding version encoding space first number also name is) follows keeps value so =
    WroteStandalone version saying (Some encoding) [] first number (also, name) (keeps, value)
    (so ∙ (ap (λ l. l ++ behind_space Standalone saying) is
    ∙ (spaced_four xml_word (saying_characters Version version)
    (saying_characters Encoding encoding) space (behind_space Standalone saying)
    ∙ ap (λ l. 60 ∷ 63 ∷ (xml_word ++ (saying_characters Version version
    ++ (saying_characters Encoding encoding
    ++ ((l ++ behind_space Standalone saying) ++ []))))) (sym same))))
said_closed n Version (Some Version) front space raw saying same wrote follows keeps value so =
    absurd follows
said_closed n Version (Some Encoding) front space raw saying same wrote follows keeps value so =
    absurd follows
said_closed n Version (Some Standalone) front space raw saying same wrote follows keeps value so =
    absurd follows
said_closed n Encoding None front space raw saying same wrote follows keeps value so =
    absurd follows
said_closed n Encoding (Some Encoding) front space raw saying same wrote follows keeps value so =
    absurd follows
said_closed n Encoding (Some Standalone) front space raw saying same wrote follows keeps value so =
    absurd follows
said_closed n Standalone None front space raw saying same wrote follows keeps value so =
    absurd follows
said_closed n Standalone
    (Some Standalone) front space raw saying same wrote follows keeps value so =
    absurd follows

quoted : (front word before after value : List ℕ) (quote : ℕ)
    → (front ++ (word ++ (before ++ 61 ∷ (after ++ quote ∷ value)))) ++ quote ∷ []
    ≡ front ++ (word ++ (before ++ 61 ∷ (after ++ quote ∷ (value ++ quote ∷ []))))
quoted front word before after value quote =
    append_assoc front (word ++ (before ++ 61 ∷ (after ++ quote ∷ value))) (quote ∷ [])
    ∙ ap (λ l. front ++ l)
    (append_assoc word (before ++ 61 ∷ (after ++ quote ∷ value)) (quote ∷ [])
    ∙ ap (λ l. word ++ l)
    (append_assoc before (61 ∷ (after ++ quote ∷ value)) (quote ∷ [])
    ∙ ap (λ l. before ++ 61 ∷ l) (append_assoc after (quote ∷ value) (quote ∷ []))))

-- and behind more of a value
pub valued : (word before after value more : List ℕ) (quote : ℕ)
    → (word ++ (before ++ 61 ∷ (after ++ quote ∷ value))) ++ more
    ≡ word ++ (before ++ 61 ∷ (after ++ quote ∷ (value ++ more)))
valued word before after value more quote =
    append_assoc word (before ++ 61 ∷ (after ++ quote ∷ value)) more
    ∙ ap (λ l. word ++ l)
    (append_assoc before (61 ∷ (after ++ quote ∷ value)) more
    ∙ ap (λ l. before ++ 61 ∷ l) (append_assoc after (quote ∷ value) more))

-- a value up to its closing quote
pub saying_closed : (n : ℕ) (said : Said) (before after value raw : List ℕ) (quote : ℕ)
    → AreWhite before → AreWhite after → is_quote quote ≡ true → SaidKeeps n said value
    → WroteSaying n said (said_word said ++ (before ++ 61 ∷ (after ++ quote ∷ value))) raw
    → WroteSaid n (raw ++ quote ∷ []) (Some said) []
saying_closed n said before after value raw quote first second quotes keeps wrote =
    said_closed n said wrote.last wrote.front wrote.space (raw ++ quote ∷ [])
    (record { space = wrote.space; before = before; after = after; quote = quote; value = value })
    refl wrote.wrote wrote.follows
    (record {
      some_space = wrote.some_space;
      space = wrote.white;
      before = first;
      after = second;
      quote = quotes;
    }) keeps
    (ap (λ l. l ++ quote ∷ []) wrote.is
    ∙ quoted wrote.front (said_word said) before after value quote)

-- what a declaration ends with
pub ends_written : (raw inside : List ℕ) → raw ≡ 60 ∷ 63 ∷ (xml_word ++ inside)
    → (raw ++ 63 ∷ []) ++ 62 ∷ [] ≡ 60 ∷ 63 ∷ (xml_word ++ (inside ++ 63 ∷ 62 ∷ []))
ends_written raw inside is =
    append_assoc raw (63 ∷ []) (62 ∷ [])
    ∙ (ap (λ l. l ++ 63 ∷ 62 ∷ []) is ∙ behind_two (63 ∷ 62 ∷ []) xml_word inside)
