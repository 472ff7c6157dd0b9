-- The row of a box around a content, that of a leaf, and the rows of an element: how many they are, and what holds of each.
use Rattle.std.proofs.Common.{◌≡◌, ℕ, ◌+◌, List, [], ◌∷◌, length, All, Option, None, refl, arith, length-append}
use Rattle.std.proofs.lemmas.List.Elements.{All-nil, All-cons, All-append}
use Rattle.dfdl_forms.specs.declared.simple.Simple.{Simple}
use Rattle.dfdl_terms.specs.declared.representations.Representations.{Representations}
use Rattle.dfdl_terms.specs.declared.framing.Framing.{Framing}
use Rattle.dfdl_terms.specs.declared.prefix.Measure.{Measure}
use Rattle.dfdl_terms.specs.declared.prefix.Prefix.{Prefix}
use Rattle.dfdl_terms.specs.declared.row.Row.{Row}
use Rattle.dfdl_terms.specs.declared.row.Row.TheVariants.{Leaf, Elem, Boxed, PrefixedLeaf, PrefixedBox, MeasuredLeaf, MeasuredBox, Spanned}
use Rattle.dfdl_rows.specs.declared.component.ContentBox.{ContentBox}
use Rattle.dfdl_rows.specs.declared.component.ContentBox.TheVariants.{Unbounded, Sized, Prefixed, Measured}
use Rattle.dfdl_rows.specs.declared.component.LeafLength.{LeafLength}
use Rattle.dfdl_rows.specs.declared.component.LeafLength.TheVariants as leaf_length
use Rattle.dfdl_rows.specs.Boxes.{box_row}
use Rattle.dfdl_rows.specs.Framing.{framed, framed_row, framing_size}
use Rattle.dfdl_rows.specs.Components.{no_trials}
use Rattle.dfdl_rows.specs.RowLists.{leaf_row, element_rows, boxed_rows}
use Rattle.dfdl_rows.proofs.Framed.{length_framed}

-- what holds of boxes
box_holds : (P : Row → Type 0) (box : ContentBox) (content : ℕ) → (box ≡ Unbounded → P (Spanned content)) → ((bits : ℕ) → box ≡ Sized bits → P (Boxed bits content))
    → ((prefix : Prefix) → box ≡ Prefixed prefix → P (PrefixedBox prefix content))
    → ((measure : Measure) → box ≡ Measured measure → P (MeasuredBox measure content)) → P (box_row box content)
box_holds P Unbounded content spanned boxes prefixed asked = spanned refl
box_holds P (Sized bits) content spanned boxes prefixed asked = boxes bits refl
box_holds P (Prefixed prefix) content spanned boxes prefixed asked = prefixed prefix refl
box_holds P (Measured measure) content spanned boxes prefixed asked = asked measure refl

-- what holds of leaves
pub leaf_holds : (P : Row → Type 0) (own_length : LeafLength) (prim : ℕ) → P (Leaf prim)
    → ((prefix : Prefix) → own_length ≡ leaf_length.Prefixed prefix → P (PrefixedLeaf prefix prim))
    → ((measure : Measure) → own_length ≡ leaf_length.Measured measure → P (MeasuredLeaf measure prim)) → P (leaf_row own_length prim)
leaf_holds P leaf_length.Own prim bare prefixed asked = bare
leaf_holds P (leaf_length.Prefixed prefix) prim bare prefixed asked = prefixed prefix refl
leaf_holds P (leaf_length.Measured measure) prim bare prefixed asked = asked measure refl

pub length_element : (name : List ℕ) (simple : Option Simple) (tried : Representations) (f : Framing) (content first : ℕ)
    → length (element_rows name simple tried f content first) ≡ 1 + framing_size f None
length_element name simple tried f content first =
    let row : Row = Elem name simple tried f.behind (framed_row f None content first) in
    omega (arith, length-append (framed f None content first) (row ∷ []), length_framed f None content first)

-- what holds of the rows that frame a content and of the element itself
pub element_all : (P : Row → Type 0) (name : List ℕ) (simple : Option Simple) (tried : Representations) (f : Framing) (content first : ℕ) → All P (framed f None content first)
    → P (Elem name simple tried f.behind (framed_row f None content first)) → All P (element_rows name simple tried f content first)
element_all P name simple tried f content first frame own =
    All-append P (framed f None content first) (Elem name simple tried f.behind (framed_row f None content first) ∷ []) frame
    (All-cons P (Elem name simple tried f.behind (framed_row f None content first)) [] own (All-nil P))

pub length_boxed : (name : List ℕ) (f : Framing) (box : ContentBox) (content first : ℕ)
    → length (boxed_rows name f box content first) ≡ 2 + framing_size f None
length_boxed name f box content first = omega (arith, length_element name None no_trials f first (first + 1))

-- what holds of boxes, of the rows that frame a content and of the element itself
pub boxed_all : (P : Row → Type 0) (name : List ℕ) (f : Framing) (box : ContentBox) → ((body : ℕ) → box ≡ Unbounded → P (Spanned body))
    → ((bits body : ℕ) → box ≡ Sized bits → P (Boxed bits body)) → ((prefix : Prefix) (body : ℕ) → box ≡ Prefixed prefix → P (PrefixedBox prefix body))
    → ((measure : Measure) (body : ℕ) → box ≡ Measured measure → P (MeasuredBox measure body)) → ((content first : ℕ) → All P (framed f None content first))
    → ((body : ℕ) → P (Elem name None no_trials f.behind body)) → (content first : ℕ) → All P (boxed_rows name f box content first)
boxed_all P name f box spanned boxes prefixed asked frame own content first =
    All-cons P (box_row box content) (element_rows name None no_trials f first (first + 1))
    (box_holds P box content (spanned content) (λ bits is. boxes bits content is) (λ prefix is. prefixed prefix content is) (λ measure is. asked measure content is))
    (element_all P name None no_trials f first (first + 1) (frame first (first + 1)) (own (framed_row f None first (first + 1))))
