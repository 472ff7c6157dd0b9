-- The tree that is built while characters are read is the one that their bytes have.
use Rattle.std.proofs.Common.{◌≡◌, ℕ, List, [], ◌∷◌, ◌++◌, true, refl, sym, ap, subst, ◌∙◌}
use Rattle.std.proofs.Common.{arith, Ok, encode_utf8, encode_utf8_all, chars, flat_map}
use Rattle.std.proofs.lemmas.Str.{chars-encodes}
use Rattle.std.specs.Char.{IsScalar}
use Rattle.std.specs.Str.{all_scalars}
use Rattle.dfdl_layers.specs.Tellers.{Each, run}
use Rattle.dfdl_layers.specs.Allowed.{Allowed}
use Rattle.dfdl_layers.proofs.Told.{text_end}
use Rattle.dfdl_xml_chars.specs.Characters.{is_allowed}
use Rattle.dfdl_xml_chars.specs.DocumentReading.{ReadsCharacters}
use Rattle.dfdl_markup.specs.Grammar.{Document}
use Rattle.dfdl_markup.specs.Rules.{IsDocument}
use Rattle.dfdl_markup.specs.Documents.{IsTreeOf}
use Rattle.dfdl_markup.specs.Trees.{Node, document_nodes}
use Rattle.dfdl_markup.specs.Machine.{start, step, accepts, beyond}
use Rattle.dfdl_markup.specs.Building.{Reader, build_step, build_start}
use Rattle.dfdl_markup.proofs.Rest.{Rest}
use Rattle.dfdl_markup.proofs.Sound.{Sound}
use Rattle.dfdl_markup.proofs.Readings.{document_of, from_start}

-- bytes are the coding of one list of characters alone

same_coding : (cs : List ℕ) → flat_map encode_utf8 cs ≡ encode_utf8_all cs
same_coding [] = refl
same_coding (c ∷ cs) = ap (λ rest. encode_utf8 c ++ rest) (same_coding cs)

scalar_all : (cs : List ℕ) → Each IsScalar cs → all_scalars cs ≡ true
scalar_all [] each = refl
scalar_all (c ∷ cs) each = let first = each.0 in let rest = scalar_all cs each.1 in simp (first, rest)

coded : (cs : List ℕ) → Each IsScalar cs → chars (flat_map encode_utf8 cs) ≡ cs
coded cs each = ap chars (same_coding cs) ∙ chars-encodes cs (scalar_all cs each)

pub same_characters : (a b : List ℕ) → Each IsScalar a → Each IsScalar b
    → flat_map encode_utf8 a ≡ flat_map encode_utf8 b → a ≡ b
same_characters a b first second is = sym (coded a first) ∙ ap chars is ∙ coded b second

module _ (reads : ReadsCharacters step start accepts 13 Sound Rest beyond)
    (built_runs : (characters : List ℕ) (r : Reader) → run build_step build_start characters ≡ Ok r
    → run step start characters ≡ Ok r.state)
    (tree_is_built : (document : Document) (characters : List ℕ) → IsDocument 13 document characters
    → (r : Reader) → run build_step build_start characters ≡ Ok r
    → r.built.nodes ≡ document_nodes document) where
  -- what is read and accepted is a document with the tree that was built
  pub tree_read : (characters : List ℕ) → Each IsScalar characters
      → Each (Allowed is_allowed) characters → (r : Reader)
      → run build_step build_start characters ≡ Ok r → accepts r.state ≡ true
      → IsTreeOf (flat_map encode_utf8 characters) r.built.nodes
  tree_read characters scalar allowed r is takes =
      let rest : Rest 13 start characters =
      text_end reads.teller characters r.state (built_runs characters r is) takes in
      let found = document_of 13 characters (from_start 13 characters (rest (omega arith))) in
      record {
        characters = characters;
        are_scalar = scalar;
        encoded = refl;
        allowed = allowed;
        document = found.0;
        is_document = found.1;
        are_nodes = tree_is_built found.0 characters found.1 r is;
      }

  -- and it has no other
  pub only_tree : (characters : List ℕ) → Each IsScalar characters → (r : Reader)
      → run build_step build_start characters ≡ Ok r → (nodes : List Node)
      → IsTreeOf (flat_map encode_utf8 characters) nodes → nodes ≡ r.built.nodes
  only_tree characters scalar r is nodes tree =
      let same = same_characters tree.characters characters tree.are_scalar scalar (sym tree.encoded) in
      let document = subst (λ cs. IsDocument 13 tree.document cs) same tree.is_document in
      tree.are_nodes ∙ sym (tree_is_built tree.document characters document r is)
