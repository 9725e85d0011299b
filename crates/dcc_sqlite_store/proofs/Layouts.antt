-- Trees that list the layout of a store list nothing else.
use Rattle.std.proofs.Common.{◌≡◌, inl, inr, ℕ, zero, suc, ◌+◌, List, [], ◌∷◌, filter, slice_get, Some, Result, Ok, pos, refl, sym, ap, ap₂, subst, ◌∙◌, arith}
use Rattle.std.specs.List.{AllZip}
use Rattle.sqlite.specs.Order.{Row, column}
use Rattle.sqlite.specs.Schema.{Schema}
use Rattle.sqlite.specs.Table.{Table}
use Rattle.sqlite.specs.Tree.{rowid}
use Rattle.sqlite.specs.declared.types.Value.{Value}
use Rattle.sqlite.specs.declared.types.Value.TheVariants.{Null, Int, Real, Text, Blob}
use Rattle.sqlite_schema.specs.declared.schema.Index.{Index}
use Rattle.sqlite_schema.specs.Names.{same_name}
use Rattle.sqlite_trees.specs.Objects.{catalog_tree}
use Rattle.sqlite_rules.specs.Lists.{Has}
use Rattle.sqlite_catalog.specs.Listing.{AreListed, IsTableRow, IsIndexRow, IsDefined, is_table_row, is_index_row, is_view_row, automatic}
use Rattle.sqlite_catalog.proofs.StepLemmas.{same_itself, named_once}
use Rattle.dcc_sqlite_store.specs.Tables.{layout}
use Rattle.dcc_sqlite_store.specs.Trees.{IsStore, StoresHaveTheLayout}

-- what each row says is one thing
zip_once : {A B : Type 0} (R : A → B → Type 0) → ((x : A) (y z : B) → R x y → R x z → y ≡ z) → (xs : List A) (ys zs : List B) → AllZip R xs ys → AllZip R xs zs → ys ≡ zs
zip_once R one [] [] [] a b = refl
zip_once R one [] [] (z ∷ zs) a b = absurd b
zip_once R one [] (y ∷ ys) zs a b = absurd a
zip_once R one (x ∷ xs) [] zs a b = absurd a
zip_once R one (x ∷ xs) (y ∷ ys) [] a b = absurd b
zip_once {A} {B} R one (x ∷ xs) (y ∷ ys) (z ∷ zs) a b = ap₂ (λ (h : B) (t : List B). h ∷ t) (one x y z a.0 b.0) (zip_once R one xs ys zs a.1 b.1)

zip_nothing : {A B : Type 0} (R : A → B → Type 0) (xs : List A) (ys : List B) → AllZip R xs [] → AllZip R xs ys → ys ≡ []
zip_nothing R [] [] a b = refl
zip_nothing R [] (y ∷ ys) a b = absurd b
zip_nothing R (x ∷ xs) ys a b = absurd a

same_tree : (row : Row) (a b : ℕ) → rowid row ≡ Int (pos (a + 1)) → rowid row ≡ Int (pos (b + 1)) → a ≡ b
same_tree row a b p q = let e : Int (pos (a + 1)) ≡ Int (pos (b + 1)) = sym p ∙ q in let n : a + 1 ≡ b + 1 = cc in omega (arith, n)

same_text : (v : Value) (a b : List ℕ) → v ≡ Text a → v ≡ Text b → a ≡ b
same_text v a b p q = let e : Text a ≡ Text b = sym p ∙ q in cc

same_ok : {A E : Type 0} (r : Result A E) (a b : A) → r ≡ Ok a → r ≡ Ok b → a ≡ b
same_ok r a b p q = let e : Ok a ≡ Ok b = sym p ∙ q in cc

one_table : (row : Row) (y z : Table) → IsTableRow row y → IsTableRow row z → y ≡ z
one_table row y z a b =
    let trees : y.tree ≡ z.tree = same_tree row y.tree z.tree a.described.id b.described.id in
    let texts : a.sql ≡ b.sql = same_text (column row 4) a.sql b.sql a.sql_is b.sql_is in
    let made : a.defined.0 ≡ b.defined.0 = same_ok _ a.defined.0 b.defined.0 a.defined.1 (rw texts b.defined.1) in
    a.defined.2 ∙ ap₂ (λ (it : Table) (tree : ℕ). record it { tree = tree }) made trees ∙ sym b.defined.2

-- a table of the layout has one key that isn't its rowid, if any
one_key : (table : Table) (m n : ℕ) (a b : List ℕ) → Has layout.tables table → slice_get table.uniques m ≡ Some a → slice_get table.uniques n ≡ Some b → (m ≡ n) × (a ≡ b)
one_key table m n a b (inl is) p q = absurd (let e = rw is at p in cc)
one_key table m n a b (inr (inl is)) p q = single _ m n a b (rw is at p) (rw is at q)
  where
    single : (key : List ℕ) (m n : ℕ) (a b : List ℕ) → slice_get (key ∷ []) m ≡ Some a → slice_get (key ∷ []) n ≡ Some b → (m ≡ n) × (a ≡ b)
    single key zero zero a b p q = (refl, let x : key ≡ a = cc in let y : key ≡ b = cc in sym x ∙ y)
    single key zero (suc n) a b p q = absurd cc
    single key (suc m) n a b p q = absurd cc
one_key table m n a b (inr (inr (inl is))) p q = single _ m n a b (rw is at p) (rw is at q)
  where
    single : (key : List ℕ) (m n : ℕ) (a b : List ℕ) → slice_get (key ∷ []) m ≡ Some a → slice_get (key ∷ []) n ≡ Some b → (m ≡ n) × (a ≡ b)
    single key zero zero a b p q = (refl, let x : key ≡ a = cc in let y : key ≡ b = cc in sym x ∙ y)
    single key zero (suc n) a b p q = absurd cc
    single key (suc m) n a b p q = absurd cc
one_key table m n a b (inr (inr (inr (inl is)))) p q = single _ m n a b (rw is at p) (rw is at q)
  where
    single : (key : List ℕ) (m n : ℕ) (a b : List ℕ) → slice_get (key ∷ []) m ≡ Some a → slice_get (key ∷ []) n ≡ Some b → (m ≡ n) × (a ≡ b)
    single key zero zero a b p q = (refl, let x : key ≡ a = cc in let y : key ≡ b = cc in sym x ∙ y)
    single key zero (suc n) a b p q = absurd cc
    single key (suc m) n a b p q = absurd cc
one_key table m n a b (inr (inr (inr (inr none)))) p q = absurd none

one_defined : (table : Table) (y z : Index) (v : Value) → Has layout.tables table → y.tree ≡ z.tree → IsDefined table y v → IsDefined table z v → y ≡ z
one_defined table y z Null listed trees a b =
    let key = one_key table a.0 b.0 a.1 b.1 listed a.2 b.2 in
    a.3 ∙ (λ i. automatic table (key.0 i) (key.1 i) (trees i)) ∙ sym b.3
one_defined table y z (Int n) listed trees a b = absurd a
one_defined table y z (Real x) listed trees a b = absurd a
one_defined table y z (Text sql) listed trees a b =
    let made : a.0 ≡ b.0 = same_ok _ a.0 b.0 a.1 b.1 in
    a.2 ∙ ap₂ (λ (it : Index) (tree : ℕ). record it { tree = tree; table = table.tree }) made trees ∙ sym b.2
one_defined table y z (Blob bytes) listed trees a b = absurd a

module _ (objects : List Row) (listed : AreListed objects layout) where
  one_index : (row : Row) (y z : Index) → IsIndexRow layout.tables row y → IsIndexRow layout.tables row z → y ≡ z
  one_index row y z a b =
      let trees : y.tree ≡ z.tree = same_tree row y.tree z.tree a.described.id b.described.id in
      let names : a.table.name ≡ b.table.name = same_text (column row 3) a.table.name b.table.name a.described.owner_is b.described.owner_is in
      let tables : a.table ≡ b.table = named_once layout.tables a.table b.table listed.named a.listed b.listed (ap (same_name a.table.name) (sym names) ∙ same_itself a.table.name) in
      one_defined a.table y z (column row 4) a.listed trees a.defined (subst (λ (t : Table). IsDefined t z (column row 4)) (sym tables) b.defined)

  one_schema : (schema : Schema) → AreListed objects schema → schema ≡ layout
  one_schema schema it =
      let tables : schema.tables ≡ layout.tables = zip_once IsTableRow one_table (filter is_table_row objects) schema.tables layout.tables it.tables listed.tables in
      let indexes : schema.indexes ≡ layout.indexes = zip_once (IsIndexRow layout.tables) one_index (filter is_index_row objects) schema.indexes layout.indexes (subst (λ (ts : List Table). AllZip (IsIndexRow ts) (filter is_index_row objects) schema.indexes) tables it.indexes) listed.indexes in
      let views : schema.views ≡ layout.views = zip_nothing _ (filter is_view_row objects) schema.views listed.views it.views in
      λ i. record { tables = tables i; indexes = indexes i; views = views i }

-- so a database over the trees of a store has its layout
pub has_layout : StoresHaveTheLayout
unfolding IsStore
has_layout db store sound = one_schema (db.trees catalog_tree) store.lists.listed db.schema sound.lists.listed
