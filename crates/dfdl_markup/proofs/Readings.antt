-- What the machine over the bytes of a document tells of them, by the rules.
use Rattle.std.proofs.Common.{◌≡◌, ℕ, ◌+◌, ◌<◌, List, [], ◌++◌, length, take, get_or}
use Rattle.std.proofs.Common.{true, false, refl, sym, ap, subst, ◌∙◌, arith, Ok, Err}
use Rattle.dfdl_layers.specs.Causes.{IsBroken, IsRefused}
use Rattle.dfdl_layers.specs.Tellers.{IsTeller, run}
use Rattle.dfdl_layers.specs.Bytes.{Inside, between, byte_accepts, AnyByte}
use Rattle.dfdl_layers.proofs.Told.{refused_at, refused_end, text_end}
use Rattle.dfdl_xml_chars.specs.DocumentReading.{document_step, SoundDocument, RestOfDocument}
use Rattle.dfdl_xml_chars.specs.DocumentReading.{ReadsCharacters}
use Rattle.dfdl_xml_chars.proofs.Documents.{document_teller}
use Rattle.dfdl_markup.specs.Grammar.{Document, mark_characters, declaration_characters, spelling}
use Rattle.dfdl_markup.specs.Rules.{IsDocument}
use Rattle.dfdl_markup.specs.Documents.{KeepsRules}
use Rattle.dfdl_markup.specs.Machine.{State, start, step, accepts, beyond}
use Rattle.dfdl_markup.proofs.Rest.{From, Rest, Marked}
use Rattle.dfdl_markup.proofs.Sound.{Sound}

-- the markup that may follow at the start is that of a document

pub document_of : (n : ℕ) (characters : List ℕ) → Marked n 0 0 [] characters
    → (document : Document) × IsDocument n document characters
document_of n characters marked =
    let declared = marked.declared in
    let content = declared.close in (
      record { mark = marked.mark; declaration = declared.declaration; content = content.content },
      record {
        spelled = marked.is ∙ ap (λ rest. mark_characters marked.mark ++ rest)
            (declared.is ∙ ap (λ rest. declaration_characters declared.declaration ++ rest) content.is);
        declaration = declared.keeps;
        content = content.keeps;
        one_root = λ more. omega (arith, content.one_root more);
      },
    )

of_document : (n : ℕ) (document : Document) (characters : List ℕ) → IsDocument n document characters
    → Marked n 0 0 [] characters
of_document n document characters is = record {
  mark = document.mark;
  rest = declaration_characters document.declaration ++ spelling document.content;
  is = is.spelled;
  declared = record {
    declaration = document.declaration;
    rest = spelling document.content;
    is = refl;
    keeps = is.declaration;
    close = record {
      content = document.content;
      is = refl;
      keeps = is.content;
      one_root = λ more. let one = is.one_root more in cc;
    };
  };
}

pub from_start : (n : ℕ) (characters : List ℕ) → From n start characters → Marked n 0 0 [] characters
unfolding start
from_start n characters from = from.whole [] refl

start_from : (n : ℕ) (characters : List ℕ) → Marked n 0 0 [] characters → From n start characters
unfolding start
start_from n characters marked = record {
  whole = λ raw wrote. subst (λ r. Marked n 0 0 [] (r ++ characters)) (sym wrote) marked;
}

-- the bytes that may follow at the start keep the rules, and those that do may
pub to_rules : (n : ℕ) (bytes : List ℕ) → RestOfDocument Rest n (between start) bytes
    → KeepsRules n bytes
to_rules n bytes rest = record {
  characters = rest.characters;
  are_scalar = rest.are_scalar;
  encoded = rest.encoded;
  allowed = rest.rest.allowed;
  markup = λ more. document_of n rest.characters (from_start n rest.characters (rest.rest.rest more));
}

pub of_rules : (n : ℕ) (bytes : List ℕ) → KeepsRules n bytes
    → RestOfDocument Rest n (between start) bytes
of_rules n bytes keeps = record {
  characters = keeps.characters;
  are_scalar = keeps.are_scalar;
  encoded = keeps.encoded;
  rest = record {
    allowed = keeps.allowed;
    rest = λ more. let found = keeps.markup more in
        start_from n keeps.characters (of_document n found.0 keeps.characters found.1);
  };
}

-- a refusal by one description of the rules is one by another

module _ {A : Type 0} (P Q : ℕ → List A → Type 0)
    (to : (n : ℕ) (items : List A) → P n items → Q n items)
    (of : (n : ℕ) (items : List A) → Q n items → P n items) where
  broken_by : (front : List A) (rule : ℕ) → IsBroken P front rule → IsBroken Q front rule
  broken_by front rule broken = record {
    kept = (broken.kept.0, to rule (front ++ broken.kept.0) broken.kept.1);
    broken = λ text. broken.broken (text.0, of (rule + 1) (front ++ text.0) text.1);
  }

  pub refused_by : (all : ℕ) (items : List A) (at rule : ℕ) → IsRefused P all items at rule
      → IsRefused Q all items at rule
  refused_by all items at rule refused =
      let place = refused.place in
      record {
        place = record {
          within = place.within;
          before = (place.before.0, to all (take at items ++ place.before.0) place.before.1);
          stops = λ less text.
              place.stops less (text.0, of all (take (at + 1) items ++ text.0) text.1);
          no_text = λ text. place.no_text (of all items text);
        };
        breaks = λ less. broken_by (take (at + 1) items) rule (refused.breaks less);
        ends = refused.ends;
      }

module _ (reads : ReadsCharacters step start accepts 13 Sound Rest beyond) where
  teller : IsTeller (document_step step beyond) (between start) (byte_accepts accepts) 13 AnyByte
      (SoundDocument beyond Sound) (RestOfDocument Rest)
  teller = document_teller reads (omega arith)

  -- where a byte is refused
  pub byte_refused : (bytes : List ℕ) (i : ℕ) (s : Inside State) (rule : ℕ) → i < length bytes
      → run (document_step step beyond) (between start) (take i bytes) ≡ Ok s
      → document_step step beyond s (get_or bytes i 0) ≡ Err rule
      → IsRefused KeepsRules 13 bytes i rule
  byte_refused bytes i s rule within is tells =
      refused_by (λ n. RestOfDocument Rest n (between start)) KeepsRules to_rules of_rules 13 bytes i
      rule (refused_at teller bytes i s 0 rule within is tt tells)

  -- where the bytes end too early
  pub end_refused : (bytes : List ℕ) (s : Inside State)
      → run (document_step step beyond) (between start) bytes ≡ Ok s
      → byte_accepts accepts s ≡ false → IsRefused KeepsRules 13 bytes (length bytes) 13
  end_refused bytes s is refuses =
      refused_by (λ n. RestOfDocument Rest n (between start)) KeepsRules to_rules of_rules 13 bytes
      (length bytes) 13 (refused_end teller bytes s is refuses)

  -- where they are a document
  pub bytes_read : (bytes : List ℕ) (s : Inside State)
      → run (document_step step beyond) (between start) bytes ≡ Ok s
      → byte_accepts accepts s ≡ true → KeepsRules 13 bytes
  bytes_read bytes s is takes = to_rules 13 bytes (text_end teller bytes s is takes)
