-- The reader over bytes is the machine over bytes, and reads the characters that they are.
use Rattle.std.proofs.Common.{◌≡◌, ℕ, ◌<◌, List, [], ◌∷◌, ◌++◌, Bool, true, false, refl, sym, ap}
use Rattle.std.proofs.Common.{subst, ◌∙◌, Result, Ok, Err, Option, Some, None, encode_utf8}
use Rattle.std.proofs.Common.{flat_map, append_assoc, if◌then◌else◌, length, take, get_or}
use Rattle.std.proofs.lemmas.List.{append-nil}
use Rattle.std.proofs.lemmas.Grind.{flat_map-append}
use Rattle.std.specs.Char.{IsScalar}
use Rattle.dfdl_layers.specs.Causes.{IsRefused}
use Rattle.dfdl_layers.specs.Tellers.{Each, run, go_on}
use Rattle.dfdl_layers.specs.Allowed.{Allowed, allowed_step}
use Rattle.dfdl_layers.specs.Bytes.{Seen, Whole, Part, Bad, Inside, between, behind, waits, by_seen}
use Rattle.dfdl_layers.specs.Bytes.{if_whole}
use Rattle.dfdl_layers.proofs.Runs.{run_push, each-append}
use Rattle.dfdl_xml_chars.specs.Utf8.{see}
use Rattle.dfdl_xml_chars.specs.Characters.{is_allowed}
use Rattle.dfdl_xml_chars.specs.Beyond.{could_by}
use Rattle.dfdl_xml_chars.specs.DocumentReading.{ReadsCharacters, document_step}
use Rattle.dfdl_xml_chars.proofs.Coding.{utf8_coding}
use Rattle.dfdl_markup.specs.Grammar.{Document}
use Rattle.dfdl_markup.specs.Rules.{IsDocument}
use Rattle.dfdl_markup.specs.Documents.{KeepsRules, IsTreeOf}
use Rattle.dfdl_markup.specs.Trees.{Node, document_nodes}
use Rattle.dfdl_markup.specs.Machine.{State, start, step, accepts, beyond}
use Rattle.dfdl_markup.specs.Building.{Built, Reader, build_step, build_start, with_built, read_step}
use Rattle.dfdl_markup.specs.Building.{read_start, read_accepts}
use Rattle.dfdl_markup.proofs.Rest.{Rest}
use Rattle.dfdl_markup.proofs.Sound.{Sound}
use Rattle.dfdl_markup.proofs.Readings.{byte_refused, end_refused}
use Rattle.dfdl_markup.proofs.TreesRead.{tree_read, only_tree}

-- the answer without the tree

abbrev pub plain : Result Reader ℕ → Result State ℕ
plain (Ok r) = Ok r.state
plain (Err m) = Err m

abbrev pub plain_inside : Inside Reader → Inside State
plain_inside i = record { state = i.state.state; read = i.read }

abbrev pub plain_bytes : Result (Inside Reader) ℕ → Result (Inside State) ℕ
plain_bytes (Ok i) = Ok (plain_inside i)
plain_bytes (Err m) = Err m

plain_built : (b : Built) (o : Result State ℕ) → plain (with_built b o) ≡ o
plain_built b (Ok t) = refl
plain_built b (Err m) = refl

pub plain_step : (r : Reader) (c : ℕ) → plain (build_step r c) ≡ step r.state c
plain_step r c = plain_built _ (step r.state c)

plain_behind : (o : Result Reader ℕ) → plain_bytes (behind o) ≡ behind (plain o)
plain_behind (Ok r) = refl
plain_behind (Err m) = refl

plain_if : (b : Bool) (o : Result Reader ℕ) (p : Result State ℕ) → plain o ≡ p
    → plain (if b then o else Err 2) ≡ (if b then p else Err 2)
plain_if true o p is = is
plain_if false o p is = refl

plain_waits : (r : Reader) (bytes : List ℕ) (o : Option ℕ)
    → plain_bytes (waits r bytes o) ≡ waits r.state bytes o
plain_waits r bytes None = refl
plain_waits r bytes (Some m) = refl

plain_seen : (r : Reader) (bytes : List ℕ) (seen : Seen)
    → plain_bytes (by_seen 1 (allowed_step 2 is_allowed build_step)
    (λ q bytes. could_by (beyond q.state) bytes) r bytes seen)
    ≡ by_seen 1 (allowed_step 2 is_allowed step) (λ s bytes. could_by (beyond s) bytes) r.state bytes
    seen
plain_seen r bytes (Whole c) =
    plain_behind (if is_allowed c then build_step r c else Err 2)
    ∙ ap behind (plain_if (is_allowed c) (build_step r c) (step r.state c) (plain_step r c))
plain_seen r bytes Part = plain_waits r bytes (could_by (beyond r.state) bytes)
plain_seen r bytes Bad = refl

pub plain_read : (i : Inside Reader) (b : ℕ)
    → plain_bytes (read_step i b) ≡ document_step step beyond (plain_inside i) b
unfolding read_step
plain_read i b = plain_seen i.state (i.read ++ b ∷ []) (see (i.read ++ b ∷ []))

plain_go : (o : Result (Inside Reader) ℕ) (rest : List ℕ)
    → ((i : Inside Reader)
    → plain_bytes (run read_step i rest) ≡ run (document_step step beyond) (plain_inside i) rest)
    → plain_bytes (go_on (λ i. run read_step i rest) o)
    ≡ go_on (λ i. run (document_step step beyond) i rest) (plain_bytes o)
plain_go (Ok i) rest same = same i
plain_go (Err m) rest same = refl

pub plain_run : (bytes : List ℕ) (i : Inside Reader)
    → plain_bytes (run read_step i bytes) ≡ run (document_step step beyond) (plain_inside i) bytes
plain_run [] i = refl
plain_run (b ∷ bytes) i =
    plain_go (read_step i b) bytes (λ j. plain_run bytes j)
    ∙ ap (λ o. go_on (λ j. run (document_step step beyond) j bytes) o) (plain_read i b)

-- the characters that bytes are, with those of one that is not whole yet
pub record Reached (bytes : List ℕ) (i : Inside Reader) : Type 0 where
  pub characters : List ℕ
  pub are_scalar : Each IsScalar characters
  pub allowed : Each (Allowed is_allowed) characters
  pub runs : run build_step build_start characters ≡ Ok i.state
  pub split : bytes ≡ flat_map encode_utf8 characters ++ i.read

reached_whole : (bytes : List ℕ) (i : Inside Reader) (b c : ℕ) (r : Reader) → Reached bytes i
    → see (i.read ++ b ∷ []) ≡ Whole c → is_allowed c ≡ true → build_step i.state c ≡ Ok r
    → Reached (bytes ++ b ∷ []) (between r)
reached_whole bytes i b c r reached seen allowed goes =
    let whole = utf8_coding.whole (i.read ++ b ∷ []) c seen in
    let coded : encode_utf8 c ≡ i.read ++ b ∷ [] = whole.1 in
    record {
      characters = reached.characters ++ c ∷ [];
      are_scalar = each-append IsScalar reached.characters (c ∷ []) reached.are_scalar (whole.0, tt);
      allowed = each-append (Allowed is_allowed) reached.characters (c ∷ []) reached.allowed
          (allowed, tt);
      runs = run_push build_step reached.characters c build_start i.state reached.runs ∙ goes;
      split = ap (λ l. l ++ b ∷ []) reached.split
          ∙ append_assoc (flat_map encode_utf8 reached.characters) i.read (b ∷ [])
          ∙ ap (λ l. flat_map encode_utf8 reached.characters ++ l) (sym coded)
          ∙ ap (λ l. flat_map encode_utf8 reached.characters ++ l) (sym (append-nil (encode_utf8 c)))
          ∙ sym (flat_map-append encode_utf8 reached.characters (c ∷ []))
          ∙ sym (append-nil (flat_map encode_utf8 (reached.characters ++ c ∷ [])));
    }

reached_part : (bytes : List ℕ) (i : Inside Reader) (b : ℕ) → Reached bytes i
    → Reached (bytes ++ b ∷ []) (record { state = i.state; read = i.read ++ b ∷ [] })
reached_part bytes i b reached = record {
  characters = reached.characters;
  are_scalar = reached.are_scalar;
  allowed = reached.allowed;
  runs = reached.runs;
  split = ap (λ l. l ++ b ∷ []) reached.split
      ∙ append_assoc (flat_map encode_utf8 reached.characters) i.read (b ∷ []);
}

reached_behind : (bytes : List ℕ) (i j : Inside Reader) (b c : ℕ) → Reached bytes i
    → see (i.read ++ b ∷ []) ≡ Whole c → is_allowed c ≡ true
    → (o : Result Reader ℕ) → build_step i.state c ≡ o → behind o ≡ Ok j
    → Reached (bytes ++ b ∷ []) j
reached_behind bytes i j b c reached seen allowed (Ok r) goes is =
    let same : between r ≡ j = cc in
    subst (λ k. Reached (bytes ++ b ∷ []) k) same (reached_whole bytes i b c r reached seen allowed goes)
reached_behind bytes i j b c reached seen allowed (Err m) goes is = absurd cc

reached_allowed : (bytes : List ℕ) (i j : Inside Reader) (b c : ℕ) → Reached bytes i
    → see (i.read ++ b ∷ []) ≡ Whole c → (t : Bool) → is_allowed c ≡ t
    → behind (if t then build_step i.state c else Err 2) ≡ Ok j
    → Reached (bytes ++ b ∷ []) j
reached_allowed bytes i j b c reached seen true allowed is =
    reached_behind bytes i j b c reached seen allowed (build_step i.state c) refl is
reached_allowed bytes i j b c reached seen false allowed is = absurd cc

reached_waits : (bytes : List ℕ) (i j : Inside Reader) (b : ℕ) → Reached bytes i
    → (o : Option ℕ) → waits i.state (i.read ++ b ∷ []) o ≡ Ok j → Reached (bytes ++ b ∷ []) j
reached_waits bytes i j b reached None is =
    let same : record { state = i.state; read = i.read ++ b ∷ [] } ≡ j = cc in
    subst (λ k. Reached (bytes ++ b ∷ []) k) same (reached_part bytes i b reached)
reached_waits bytes i j b reached (Some m) is = absurd cc

reached_seen : (bytes : List ℕ) (i j : Inside Reader) (b : ℕ) → Reached bytes i
    → (seen : Seen) → see (i.read ++ b ∷ []) ≡ seen
    → by_seen 1 (allowed_step 2 is_allowed build_step)
    (λ q bytes. could_by (beyond q.state) bytes) i.state (i.read ++ b ∷ []) seen ≡ Ok j
    → Reached (bytes ++ b ∷ []) j
reached_seen bytes i j b reached (Whole c) seen is =
    reached_allowed bytes i j b c reached seen (is_allowed c) refl is
reached_seen bytes i j b reached Part seen is =
    reached_waits bytes i j b reached (could_by (beyond i.state.state) (i.read ++ b ∷ [])) is
reached_seen bytes i j b reached Bad seen is = absurd cc

pub reached_step : (bytes : List ℕ) (i j : Inside Reader) (b : ℕ) → Reached bytes i
    → read_step i b ≡ Ok j → Reached (bytes ++ b ∷ []) j
unfolding read_step
reached_step bytes i j b reached is =
    reached_seen bytes i j b reached (see (i.read ++ b ∷ [])) refl is

reached_go : (bytes rest : List ℕ) (j : Inside Reader) (o : Result (Inside Reader) ℕ)
    → go_on (λ i. run read_step i rest) o ≡ Ok j
    → ((i : Inside Reader) → o ≡ Ok i → run read_step i rest ≡ Ok j → Reached (bytes ++ rest) j)
    → Reached (bytes ++ rest) j
reached_go bytes rest j (Ok i) is next = next i refl is
reached_go bytes rest j (Err m) is next = absurd cc

pub reached_run : (rest bytes : List ℕ) (i j : Inside Reader) → Reached bytes i
    → run read_step i rest ≡ Ok j → Reached (bytes ++ rest) j
reached_run [] bytes i j reached is =
    let same : i ≡ j = cc in
    subst (λ l. Reached l j) (sym (append-nil bytes)) (subst (λ k. Reached bytes k) same reached)
reached_run (b ∷ rest) bytes i j reached is =
    subst (λ l. Reached l j) (append_assoc bytes (b ∷ []) rest)
    (reached_go (bytes ++ b ∷ []) rest j (read_step i b) is
    (λ k goes more. reached_run rest (bytes ++ b ∷ []) k j (reached_step bytes i k b reached goes) more))

reached_start : Reached [] read_start
reached_start = record {
  characters = [];
  are_scalar = tt;
  allowed = tt;
  runs = refl;
  split = refl;
}

-- nothing is open where the bytes may end
whole_end : (accepted : Bool) (read : List ℕ) → if_whole accepted read ≡ true
    → (read ≡ []) × (accepted ≡ true)
whole_end accepted [] is = (refl, is)
whole_end accepted (b ∷ read) is = absurd cc

module _ (reads : ReadsCharacters step start accepts 13 Sound Rest beyond)
    (built_runs : (characters : List ℕ) (r : Reader) → run build_step build_start characters ≡ Ok r
    → run step start characters ≡ Ok r.state)
    (tree_is_built : (document : Document) (characters : List ℕ) → IsDocument 13 document characters
    → (r : Reader) → run build_step build_start characters ≡ Ok r
    → r.built.nodes ≡ document_nodes document) where
  -- the reader stops at a byte
  pub stopped : (bytes : List ℕ) (at : ℕ) (i : Inside Reader) (rule : ℕ) → at < length bytes
      → run read_step read_start (take at bytes) ≡ Ok i → read_step i (get_or bytes at 0) ≡ Err rule
      → IsRefused KeepsRules 13 bytes at rule
  stopped bytes at i rule within is tells =
      byte_refused reads bytes at (plain_inside i) rule within
      (sym (plain_run (take at bytes) read_start) ∙ ap plain_bytes is)
      (sym (plain_read i (get_or bytes at 0)) ∙ ap plain_bytes tells)

  -- the bytes end too early for it
  pub cut_off : (bytes : List ℕ) (i : Inside Reader) → run read_step read_start bytes ≡ Ok i
      → read_accepts i ≡ false → IsRefused KeepsRules 13 bytes (length bytes) 13
  cut_off bytes i is refuses =
      end_refused reads bytes (plain_inside i)
      (sym (plain_run bytes read_start) ∙ ap plain_bytes is) refuses

  -- the bytes are a document for it
  pub read_through : (bytes : List ℕ) (i : Inside Reader) → run read_step read_start bytes ≡ Ok i
      → read_accepts i ≡ true
      → IsTreeOf bytes i.state.built.nodes
      × ((nodes : List Node) → IsTreeOf bytes nodes → nodes ≡ i.state.built.nodes)
  read_through bytes i is takes =
      let reached = reached_run bytes [] read_start i reached_start is in
      let ended = whole_end (accepts i.state.state) i.read takes in
      let same : flat_map encode_utf8 reached.characters ≡ bytes =
      sym (reached.split ∙ ap (λ l. flat_map encode_utf8 reached.characters ++ l) ended.0
      ∙ append-nil (flat_map encode_utf8 reached.characters)) in (
        subst (λ l. IsTreeOf l i.state.built.nodes) same
            (tree_read reads built_runs tree_is_built reached.characters reached.are_scalar reached.allowed
            i.state reached.runs ended.1),
        λ nodes tree. only_tree reads built_runs tree_is_built reached.characters reached.are_scalar
            i.state reached.runs nodes (subst (λ l. IsTreeOf l nodes) (sym same) tree),
      )
