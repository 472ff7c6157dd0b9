-- How maps of prefixes and of variables are filled.
use Rattle.std.proofs.Common.{◌≡◌, ℕ, zero, suc, ◌+◌, ◌<◌, ◌≤◌, ◌||◌, List, [], ◌∷◌, ◌++◌, length, map, take, drop, get_or, Bool, true, false, if◌then◌else◌, bytes_eq, Option, Some, None, is_some, ap, sym, subst, ◌∙◌, refl, inl, inr, arith, drop-cons, BTreeMap, String}
use Rattle.std.specs.BTreeMap.{IsEmpty, get_by_text}
use Rattle.std.specs.Prelude.{string_bytes}
use Rattle.std.proofs.Math.Seq.{take-suc}
use Rattle.std.proofs.lemmas.Bool.{cases_Bool}
use Rattle.std.proofs.lemmas.Slice.Eq.{bytes_eq-Decides}
use Rattle.std.proofs.lemmas.List.Folds.{list_any-append}
use Rattle.dfdl_markup.specs.Trees.{Node}
use Rattle.dfdl_documents.specs.Documents.{SchemaDocument}
use Rattle.dfdl_documents.specs.Loading.{is_among}
use Rattle.dfdl_components.specs.declared.site.Site.{Site}
use Rattle.dfdl_components.specs.Searching.{or_else}
use Rattle.dfdl_components.specs.Sites.{nodes_of}
use Rattle.dfdl_expression_types.specs.declared.statics.Variable.{Variable}
use Rattle.dfdl_variables.specs.declared.variable.Declared.{Declared}
use Rattle.dfdl_written.specs.Prefixes.{AreDeclaredIn, namespace_among, namespace_at, namespace_in, namespace_with}
use Rattle.dfdl_written.specs.Variables.{sound_type, variable_by, variable_from, variable_if}
use Rattle.dfdl_forms.specs.declared.simple.Simple.{Simple}
use Rattle.dfdl_written.proofs.Gathered.{or_none as or_false}

-- a list that is made from one item more
pub taken_more : {X Y : Type 0} (f : X → Y) (xs : List X) (at : ℕ) (d : X) → at < length xs → map f (take (at + 1) xs) ≡ map f (take at xs) ++ f (get_or xs at d) ∷ []
taken_more {X} {Y} f xs at d less =
    let next : suc at ≡ at + 1 = omega arith in
    ap (λ (k : ℕ). map f (take k xs)) (sym next) ∙ (ap (map f) (take-suc xs at d less) ∙ behind (take at xs))
  where
    behind : (ys : List X) → map f (ys ++ get_or xs at d ∷ []) ≡ map f ys ++ f (get_or xs at d) ∷ []
    behind [] = refl
    behind (y ∷ ys) = ap (λ (zs : List Y). f y ∷ zs) (behind ys)

pub taken_all : {X : Type 0} (xs : List X) (at : ℕ) → length xs ≤ at → take at xs ≡ xs
taken_all [] zero all = refl
taken_all [] (suc at) all = refl
taken_all (x ∷ xs) zero all = absurd (omega (arith, all))
taken_all {X} (x ∷ xs) (suc at) all = ap (λ (ys : List X). x ∷ ys) (taken_all xs at (omega (arith, all)))

-- no entries
pub none_at : {X Y : Type 0} (entries : BTreeMap (String Y) X) → IsEmpty entries → (q : List ℕ) → get_by_text entries q ≡ None
none_at entries empty q = rw empty refl

-- the namespace of a prefix that is put
put_here : (name q : List ℕ) (namespace : Option (List ℕ)) (given : Option (List ℕ)) (known : Bool) → bytes_eq name q ≡ true → given ≡ namespace
    → namespace_with name given q (if known then namespace else None) ≡ namespace
put_here name q namespace None true same is = refl
put_here name q namespace None false same is = is
put_here name q namespace (Some given) known same is = ap (λ (b : Bool). if b then Some given else (if known then namespace else None)) same ∙ is

put_elsewhere : (name q : List ℕ) (given before : Option (List ℕ)) → bytes_eq name q ≡ false → namespace_with name given q before ≡ before
put_elsewhere name q None before other = refl
put_elsewhere name q (Some given) before other = ap (λ (b : Bool). if b then Some given else before) other

or_true : (b : Bool) → (b || true) ≡ true
or_true true = refl
or_true false = refl

-- one prefix more
pub namespace_more : (nodes : List Node) (element : ℕ) (prefixes : List (List ℕ)) (name q : List ℕ) (old new : Option (List ℕ))
    → new ≡ namespace_with name (namespace_in nodes element name) q old → old ≡ namespace_among prefixes nodes element q
    → new ≡ namespace_among (prefixes ++ name ∷ []) nodes element q
namespace_more nodes element prefixes name q old new new_is old_is =
    new_is ∙ (ap (namespace_with name (namespace_in nodes element name) q) old_is ∙ by)
  where
    among : is_among (prefixes ++ name ∷ []) q ≡ (is_among prefixes q || bytes_eq name q)
    among = list_any-append (λ (other : List ℕ). bytes_eq other q) prefixes (name ∷ []) ∙ ap (λ (b : Bool). is_among prefixes q || b) (or_false (bytes_eq name q))

    by : namespace_with name (namespace_in nodes element name) q (if is_among prefixes q then namespace_in nodes element q else None)
        ≡ namespace_among (prefixes ++ name ∷ []) nodes element q
    by = elim (cases_Bool (bytes_eq name q)) [
      | inl same ↦
          let known : is_among (prefixes ++ name ∷ []) q ≡ true = among ∙ (ap (λ (b : Bool). is_among prefixes q || b) same ∙ or_true (is_among prefixes q)) in
          put_here name q (namespace_in nodes element q) (namespace_in nodes element name) (is_among prefixes q) same
          (ap (namespace_in nodes element) ((bytes_eq-Decides name q).0 same))
          ∙ ap (λ (b : Bool). if b then namespace_in nodes element q else None) (sym known)
      | inr other ↦
          let known : is_among (prefixes ++ name ∷ []) q ≡ is_among prefixes q
          = among ∙ (ap (λ (b : Bool). is_among prefixes q || b) other ∙ or_false (is_among prefixes q)) in
          put_elsewhere name q (namespace_in nodes element name) (if is_among prefixes q then namespace_in nodes element q else None) other
          ∙ ap (λ (b : Bool). if b then namespace_in nodes element q else None) (sym known)
    ]

-- the namespaces of the prefixes that a document declares
pub namespaces_are : (documents : List SchemaDocument) (own : Site) (prefixes : List (List ℕ)) (q : List ℕ) (o : Option (List ℕ))
    → AreDeclaredIn (nodes_of documents own.document) prefixes → o ≡ namespace_among prefixes (nodes_of documents own.document) own.element q
    → o ≡ namespace_at documents own q
namespaces_are documents own prefixes q o declared is =
    is ∙ ap (λ (b : Bool). if b then namespace_in (nodes_of documents own.document) own.element q else None) (declared q)

-- entries by name, of which the first counts
pub else_none : {X : Type 0} (o : Option X) → or_else o None ≡ o
else_none None = refl
else_none (Some x) = refl

else_else : {X : Type 0} (a b c : Option X) → or_else (or_else a b) c ≡ or_else a (or_else b c)
else_else None b c = refl
else_else (Some x) b c = refl

is_absent : {X : Type 0} (o : Option X) → is_some o ≡ false → o ≡ None
is_absent None e = refl
is_absent (Some x) e = let never : true ≡ false = e in cc

-- one name more, unless there is one
pub put_new : {X : Type 0} (old new : List ℕ → Option X) (name q : List ℕ) (x : X) → new q ≡ (if bytes_eq name q then Some x else old q) → is_some (old name) ≡ false
    → new q ≡ or_else (old q) (if bytes_eq name q then Some x else None)
put_new {X} old new name q x step absent = elim (cases_Bool (bytes_eq name q)) [
  | inl same ↦
      let none : old q ≡ None = subst (λ (t : List ℕ). old t ≡ None) ((bytes_eq-Decides name q).0 same) (is_absent (old name) absent) in
      step
      ∙ (ap (λ (b : Bool). if b then Some x else old q) same
      ∙ sym (ap (λ (b : Bool). or_else (old q) (if b then Some x else None)) same ∙ ap (λ (o : Option X). or_else o (Some x)) none))
  | inr other ↦
      step
      ∙ (ap (λ (b : Bool). if b then Some x else old q) other
      ∙ sym (ap (λ (b : Bool). or_else (old q) (if b then Some x else None)) other ∙ else_none (old q)))
]

-- no name more, where there is one
pub put_old : {X : Type 0} (old : List ℕ → Option X) (name q : List ℕ) (x : X) → is_some (old name) ≡ true → old q ≡ or_else (old q) (if bytes_eq name q then Some x else None)
put_old {X} old name q x there = elim (cases_Bool (bytes_eq name q)) [
  | inl same ↦
      sym (kept (old q) (Some x) (subst (λ (t : List ℕ). is_some (old t) ≡ true) ((bytes_eq-Decides name q).0 same) there))
      ∙ ap (λ (b : Bool). or_else (old q) (if b then Some x else None)) (sym same)
  | inr other ↦ sym (ap (λ (b : Bool). or_else (old q) (if b then Some x else None)) other ∙ else_none (old q))
]
  where
    kept : (o other : Option X) → is_some o ≡ true → or_else o other ≡ o
    kept None other e = let never : false ≡ true = e in cc
    kept (Some y) other e = refl

-- nothing more, where there is none to put
pub put_none : {X : Type 0} (old : Option X) (test : Bool) → old ≡ or_else old (if test then None else None)
put_none old true = sym (else_none old)
put_none old false = sym (else_none old)

-- one variable more
pub variable_more : (variables : List Declared) (at : ℕ) (d : Declared) (q : List ℕ) (old new whole : Option Variable) → at < length variables
    → new ≡ or_else old (variable_if q at (get_or variables at d)) → or_else old (variable_from at (drop at variables) q) ≡ whole
    → or_else new (variable_from (at + 1) (drop (at + 1) variables) q) ≡ whole
variable_more variables at d q old new whole less step same =
    let next : suc at ≡ at + 1 = omega arith in
    ap (λ (o : Option Variable). or_else o (variable_from (at + 1) (drop (at + 1) variables) q)) step
    ∙ (else_else old (variable_if q at (get_or variables at d)) (variable_from (at + 1) (drop (at + 1) variables) q)
    ∙ (ap (λ (k : ℕ). or_else old (or_else (variable_if q at (get_or variables at d)) (variable_from k (drop k variables) q))) (sym next)
    ∙ (ap (λ (vs : List Declared). or_else old (variable_from at vs q)) (sym (drop-cons variables at d less)) ∙ same)))

-- none is left
pub variable_end : (variables : List Declared) (at : ℕ) (q : List ℕ) (old whole : Option Variable) → length variables ≤ at
    → or_else old (variable_from at (drop at variables) q) ≡ whole → old ≡ whole
variable_end variables at q old whole all same =
    sym (else_none old) ∙ (ap (λ (vs : List Declared). or_else old (variable_from at vs q)) (sym (none variables at all)) ∙ same)
  where
    none : (ns : List Declared) (i : ℕ) → length ns ≤ i → drop i ns ≡ []
    none [] zero less = refl
    none [] (suc i) less = refl
    none (n ∷ ns) zero less = absurd (omega (arith, less))
    none (n ∷ ns) (suc i) less = none ns i (omega (arith, less))

-- what is put of a variable
pub variable_step : (variables : List Declared) (at number : ℕ) (d v : Declared) (q name : List ℕ) (given : Option Variable) (simple : Option Simple) (old new : Option Variable)
    → v ≡ get_or variables at d → name ≡ v.name → number ≡ at → simple ≡ sound_type v → given ≡ variable_by number simple
    → new ≡ or_else old (if bytes_eq name q then given else None) → new ≡ or_else old (variable_if q at (get_or variables at d))
variable_step variables at number d v q name given simple old new there name_is number_is simple_is given_is new_is =
    let named : name ≡ (get_or variables at d).name = name_is ∙ ap (λ (w : Declared). w.name) there in
    let typed : simple ≡ sound_type (get_or variables at d) = simple_is ∙ ap sound_type there in
    let told : given ≡ variable_by at (sound_type (get_or variables at d)) = given_is ∙ (λ i. variable_by (number_is i) (typed i)) in
    new_is ∙ (λ i. or_else old (if bytes_eq (named i) q then told i else None))

-- one prefix more of some
pub prefix_step : {Y : Type 0} (nodes : List Node) (element : ℕ) (prefixes : List (String Y)) (at : ℕ) (d item : String Y) (name q : List ℕ) (given old new : Option (List ℕ))
    → at < length prefixes → item ≡ get_or prefixes at d → name ≡ string_bytes item → given ≡ namespace_in nodes element name → new ≡ namespace_with name given q old
    → old ≡ namespace_among (map (λ (s : String Y). string_bytes s) (take at prefixes)) nodes element q
    → new ≡ namespace_among (map (λ (s : String Y). string_bytes s) (take (at + 1) prefixes)) nodes element q
prefix_step {Y} nodes element prefixes at d item name q given old new less there name_is given_is new_is old_is =
    let named : name ≡ string_bytes (get_or prefixes at d) = name_is ∙ ap (λ (s : String Y). string_bytes s) there in
    namespace_more nodes element (map (λ (s : String Y). string_bytes s) (take at prefixes)) (string_bytes (get_or prefixes at d)) q old new
    (new_is ∙ (ap (λ (o : Option (List ℕ)). namespace_with name o q old) given_is
    ∙ ap (λ (t : List ℕ). namespace_with t (namespace_in nodes element t) q old) named)) old_is
    ∙ ap (λ (names : List (List ℕ)). namespace_among names nodes element q) (sym (taken_more (λ (s : String Y). string_bytes s) prefixes at d less))

-- all of them
pub prefix_end : {Y : Type 0} (nodes : List Node) (element : ℕ) (prefixes : List (String Y)) (at : ℕ) (q : List ℕ) (old : Option (List ℕ)) → length prefixes ≤ at
    → old ≡ namespace_among (map (λ (s : String Y). string_bytes s) (take at prefixes)) nodes element q
    → old ≡ namespace_among (map (λ (s : String Y). string_bytes s) prefixes) nodes element q
prefix_end {Y} nodes element prefixes at q old all is =
    is ∙ ap (λ (ps : List (String Y)). namespace_among (map (λ (s : String Y). string_bytes s) ps) nodes element q) (taken_all prefixes at all)
