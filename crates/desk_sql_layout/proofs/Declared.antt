-- What a schema has that has the desk's tables.
use Rattle.std.proofs.Common.{◌≡◌, ℕ, suc, Bool, true, false, List, [], ◌∷◌, map, slice_get, Option}
use Rattle.std.proofs.Common.{refl, sym, ap, ap₂, subst, ◌∙◌}
use Rattle.std.specs.Prelude.{◌==◌, ◌+◌, find, if◌then◌else◌, length, option_and_then}
use Rattle.std.specs.Prelude.{option_map, unwrap_or}
use Rattle.std.specs.List.{AllByRecursion, range_with_len}
use Rattle.std.specs.List.Sorted.{IsPermutation}
use Rattle.sqlite_value.specs.Keys.{first_key}
use Rattle.sqlite_value.specs.Order.{Row, column}
use Rattle.sqlite_typing.specs.Types.{class_in, row_classes}
use Rattle.sqlite_typing.specs.declared.class.Class.{Class}
use Rattle.sqlite_schema.specs.declared.schema.Column.{Column}
use Rattle.sqlite_schema.specs.declared.schema.Table.{Table}
use Rattle.sqlite_schema.specs.declared.schema.Schema.{Schema}
use Rattle.sqlite_schema.specs.Names.{is_key, place_of, same_name}
use Rattle.sqlite_rules.specs.Cast.{cast, cast_all, cast_row}
use Rattle.sqlite_rules.specs.Lists as lists
use Rattle.sqlite_rules.proofs.ListLemmas.{all_from, all_has, has_got}
use Rattle.sqlite.specs.Effect.{Database, IsDatabase}
use Rattle.desk_sql_layout.specs.Held.{HasRows, labelled}
use Rattle.desk_sql_layout.specs.Desk.{HasDesk, HasTable, columns_with, found_as, name_of, tree_in}
use Rattle.desk_sql_layout.specs.Desk.{tree_named}
use Rattle.desk_sql_layout.specs.Layout.{desk_schema, meta_table}
use Rattle.desk_sql_layout.specs.Stored.{cells, AllStored, AreStored}
use Rattle.desk_sql_layout.proofs.OneQuery.{Has}

-- ---- each table of the desk by its number

names_are : AllByRecursion (λ (t : Table). name_of t.tree ≡ t.name) desk_schema.tables
names_are = (
  refl,
  (
    refl,
    (
      refl,
      (
        refl,
        (
          refl,
          (refl, (refl, (refl, (refl, (refl, (refl, (refl, (refl, (refl, (refl, (refl, tt))))))))))),
        ),
      ),
    ),
  ),
)

labels_are : AllByRecursion (λ (t : Table). tree_named desk_schema t.name ≡ t.tree)
    desk_schema.tables
unfolding same_name
labels_are = (
  refl,
  (
    refl,
    (
      refl,
      (
        refl,
        (
          refl,
          (refl, (refl, (refl, (refl, (refl, (refl, (refl, (refl, (refl, (refl, (refl, tt))))))))))),
        ),
      ),
    ),
  ),
)

-- the desk's table that has this tree where the file has no other tables
abbrev pub table_at : ℕ → Table
table_at tree = unwrap_or (find (λ t. t.tree == tree) desk_schema.tables) meta_table

tables_are : AllByRecursion (λ (t : Table). table_at t.tree ≡ t) desk_schema.tables
tables_are = (
  refl,
  (
    refl,
    (
      refl,
      (
        refl,
        (
          refl,
          (refl, (refl, (refl, (refl, (refl, (refl, (refl, (refl, (refl, (refl, (refl, tt))))))))))),
        ),
      ),
    ),
  ),
)

module _ (t : Table) (there : lists.Has desk_schema.tables t) where
  pub name_is : name_of t.tree ≡ t.name
  name_is = all_has (λ (t : Table). name_of t.tree ≡ t.name) desk_schema.tables t names_are there

  pub label_is : tree_named desk_schema t.name ≡ t.tree
  label_is = all_has (λ (t : Table). tree_named desk_schema t.name ≡ t.tree) desk_schema.tables t
      labels_are there

  pub table_is : table_at t.tree ≡ t
  table_is = all_has (λ (t : Table). table_at t.tree ≡ t) desk_schema.tables t tables_are there

-- ---- NOT NULL on the rowid changes nothing

same_length : (key : Option ℕ) (not_null : Bool) (at : ℕ) (cs : List Column)
    → length (columns_with key not_null at cs) ≡ length cs
same_length key not_null at [] = refl
same_length key not_null at (c ∷ cs) =
    ap suc (same_length key not_null (at + 1) cs)

pub cells_same : (t : Table) (tree : ℕ) (not_null : Bool) (r : Row)
    → cells (found_as t tree not_null) r ≡ cells t r
cells_same t tree not_null r =
    ap (λ n. map (λ at. column r (place_of t at)) (range_with_len 0 n))
    (same_length t.key not_null 0 t.columns)

pub stored_same : (t : Table) (tree : ℕ) (not_null : Bool) (rows stored : List Row)
    → AreStored (found_as t tree not_null) rows stored → AreStored t rows stored
stored_same t tree not_null rows stored are = record {
  rising = are.rising;
  keyed = are.keyed;
  same = subst (λ l. IsPermutation rows l)
      (λ i. map (λ r. cells_same t tree not_null r i) stored) are.same;
}

pub stored_found : (t : Table) (tree : ℕ) (not_null : Bool) (rows stored : List Row)
    → AreStored t rows stored → AreStored (found_as t tree not_null) rows stored
stored_found t tree not_null rows stored are = record {
  rising = are.rising;
  keyed = are.keyed;
  same = subst (λ l. IsPermutation rows l)
      (sym (λ i. map (λ r. cells_same t tree not_null r i) stored)) are.same;
}

classes_from : (key : Option ℕ) (not_null : Bool) (at : ℕ) (cs : List Column)
    → map class_in (columns_with key not_null at cs) ≡ map class_in cs
classes_from key not_null at [] = refl
classes_from key not_null at (c ∷ cs) =
    ap₂ (λ (k : Class) (l : List Class). k ∷ l) (one (is_key key at))
    (classes_from key not_null (at + 1) cs)
  where
    one : (b : Bool) → class_in (if b then record c { not_null = not_null } else c) ≡ class_in c
    one true = refl
    one false = refl

pub classes_same : (t : Table) (tree : ℕ) (not_null : Bool)
    → row_classes (found_as t tree not_null) ≡ row_classes t
classes_same t tree not_null = ap (λ l. Rattle.sqlite_typing.specs.Types.column_class
    Rattle.sqlite_schema.specs.declared.schema.Kind.TheVariants.Integer ∷ l)
    (classes_from t.key not_null 0 t.columns)

cast_from : (key : Option ℕ) (not_null : Bool) (at : ℕ) (cs : List Column) (vs : Row)
    → cast_all (columns_with key not_null at cs) vs ≡ cast_all cs vs
cast_from key not_null at [] vs = refl
cast_from key not_null at (c ∷ cs) [] = refl
cast_from key not_null at (c ∷ cs) (v ∷ vs) =
    ap₂ (λ w (l : Row). w ∷ l) (one (is_key key at)) (cast_from key not_null (at + 1) cs vs)
  where
    one : (b : Bool) → cast (if b then record c { not_null = not_null } else c).kind v
        ≡ cast c.kind v
    one true = refl
    one false = refl

pub cast_same : (t : Table) (tree : ℕ) (not_null : Bool) (r : Row)
    → cast_row (found_as t tree not_null) r ≡ cast_row t r
cast_same t tree not_null r =
    ap (λ l. cast Rattle.sqlite_schema.specs.declared.schema.Kind.TheVariants.Integer
    (column r 0) ∷ l)
    (cast_from t.key not_null 0 t.columns (Rattle.std.specs.Prelude.drop 1 r))

-- ---- a schema that has them

module _ (schema : Schema) (desk : HasDesk schema) where
  pub alone_in : AllByRecursion (λ (t : Table). t.references ≡ []) schema.tables
  unfolding HasDesk
  alone_in = desk.alone

  module _ (t : Table) (there : lists.Has desk_schema.tables t) where
    pub entry : HasTable schema t
    unfolding HasDesk
    entry = all_has (HasTable schema) desk_schema.tables t desk.tables there

    -- the table as the schema has it
    abbrev pub actual : Table
    actual = found_as t entry.tree entry.not_null

    pub has_actual : Has schema entry.place actual
    has_actual = record {
      named = entry.named;
      listed = entry.listed;
      found = entry.own;
      low =
          entry.stored;
    }

    pub in_tables : lists.Has schema.tables actual
    in_tables = has_got schema.tables entry.place actual entry.listed

    named_is : tree_named schema t.name ≡ entry.tree
    named_is =
        (λ i. unwrap_or (option_map (λ (t : Table). t.tree)
        (option_and_then (slice_get schema.tables) (entry.named i))) 0)
        ∙ (λ i. unwrap_or (option_map (λ (t : Table). t.tree) (entry.listed i)) 0)

    pub tree_is : tree_in schema t.tree ≡ entry.tree
    unfolding tree_in
    tree_is = ap (tree_named schema) (name_is t there) ∙ named_is

  -- each in a tree of its own
  pub apart_in : (s t : Table) (here : lists.Has desk_schema.tables s)
      (there : lists.Has desk_schema.tables t)
      → tree_in schema s.tree ≡ tree_in schema t.tree → s.tree ≡ t.tree
  apart_in s t here there e =
      let trees : (entry s here).tree ≡ (entry t there).tree = sym (tree_is s here) ∙ e
      ∙ tree_is t there in
      let names : s.name ≡ t.name =
      ap (λ (o : Option Table). unwrap_or (option_map (λ (u : Table). u.name) o) [])
      (sym (entry s here).own ∙ ap (λ n. find (λ (u : Table). u.tree == n) schema.tables) trees
      ∙ (entry t there).own) in
      sym (label_is s here) ∙ ap (tree_named desk_schema) names ∙ label_is t there

-- ---- the schema of a file that has no other tables

pub desk_is : HasDesk desk_schema
unfolding HasDesk same_name first_key
desk_is = record {
  tables = (
    record {
      place = 0;
      tree = 0;
      not_null = true;
      named = refl;
      listed = refl;
      own = refl;
      stored =
          refl;
      harmless = refl;
    },
    (
      record {
        place = 1;
        tree = 1;
        not_null = true;
        named = refl;
        listed = refl;
        own = refl;
        stored =
            refl;
        harmless = refl;
      },
      (
        record {
          place = 2;
          tree = 2;
          not_null = true;
          named = refl;
          listed = refl;
          own = refl;
          stored =
              refl;
          harmless = refl;
        },
        (
          record {
            place = 3;
            tree = 4;
            not_null = true;
            named = refl;
            listed = refl;
            own = refl;
            stored =
                refl;
            harmless = refl;
          },
          (
            record {
              place = 4;
              tree = 6;
              not_null = true;
              named = refl;
              listed = refl;
              own = refl;
              stored =
                  refl;
              harmless = refl;
            },
            (
              record {
                place = 5;
                tree = 8;
                not_null = true;
                named = refl;
                listed = refl;
                own = refl;
                stored =
                    refl;
                harmless = refl;
              },
              (
                record {
                  place = 6;
                  tree = 10;
                  not_null = true;
                  named = refl;
                  listed = refl;
                  own = refl;
                  stored =
                      refl;
                  harmless = refl;
                },
                (
                  record {
                    place = 7;
                    tree = 12;
                    not_null = true;
                    named = refl;
                    listed = refl;
                    own = refl;
                    stored =
                        refl;
                    harmless = refl;
                  },
                  (
                    record {
                      place = 8;
                      tree = 14;
                      not_null = true;
                      named = refl;
                      listed = refl;
                      own = refl;
                      stored =
                          refl;
                      harmless = refl;
                    },
                    (
                      record {
                        place = 9;
                        tree = 17;
                        not_null = true;
                        named = refl;
                        listed = refl;
                        own = refl;
                        stored =
                            refl;
                        harmless = refl;
                      },
                      (
                        record {
                          place = 10;
                          tree = 19;
                          not_null = true;
                          named = refl;
                          listed = refl;
                          own = refl;
                          stored
                              = refl;
                          harmless = refl;
                        },
                        (
                          record {
                            place = 11;
                            tree = 21;
                            not_null = true;
                            named = refl;
                            listed = refl;
                            own = refl;
                            stored
                                = refl;
                            harmless = refl;
                          },
                          (
                            record {
                              place = 12;
                              tree = 23;
                              not_null = true;
                              named = refl;
                              listed = refl;
                              own = refl;
                              stored
                                  = refl;
                              harmless = refl;
                            },
                            (
                              record {
                                place = 13;
                                tree = 25;
                                not_null = true;
                                named = refl;
                                listed = refl;
                                own = refl;
                                stored
                                    = refl;
                                harmless = refl;
                              },
                              (
                                record {
                                  place = 14;
                                  tree = 27;
                                  not_null = true;
                                  named = refl;
                                  listed = refl;
                                  own = refl;
                                  stored
                                      = refl;
                                  harmless = refl;
                                },
                                (
                                  record {
                                    place = 15;
                                    tree = 28;
                                    not_null = true;
                                    named = refl;
                                    listed = refl;
                                    own = refl;
                                    stored
                                        = refl;
                                    harmless = refl;
                                  },
                                  tt,
                                ),
                              ),
                            ),
                          ),
                        ),
                      ),
                    ),
                  ),
                ),
              ),
            ),
          ),
        ),
      ),
    ),
  );
  alone = (
    refl,
    (
      refl,
      (
        refl,
        (
          refl,
          (
            refl,
            (
              refl,
              (refl, (refl, (refl, (refl, (refl, (refl, (refl, (refl, (refl, (refl, tt)))))))))),
            ),
          ),
        ),
      ),
    ),
  );
}

trees_are : AllByRecursion (λ (t : Table). tree_in desk_schema t.tree ≡ t.tree) desk_schema.tables
unfolding tree_in same_name
trees_are = (
  refl,
  (
    refl,
    (
      refl,
      (
        refl,
        (
          refl,
          (refl, (refl, (refl, (refl, (refl, (refl, (refl, (refl, (refl, (refl, (refl, tt))))))))))),
        ),
      ),
    ),
  ),
)

pub own_tree : (t : Table) → lists.Has desk_schema.tables t → tree_in desk_schema t.tree ≡ t.tree
own_tree t there = all_has (λ (t : Table). tree_in desk_schema t.tree ≡ t.tree) desk_schema.tables t
    trees_are there

pub own_entry : (t : Table) (there : lists.Has desk_schema.tables t)
    → (entry desk_schema desk_is t there).tree ≡ t.tree
own_entry t there = sym (tree_is desk_schema desk_is t there) ∙ own_tree t there

-- a database with no other tables holds the rows that its tables show
pub rows_declared : (rows : ℕ → List Row) (db : Database) → db.schema ≡ desk_schema
    → AllStored desk_schema rows db.trees → IsDatabase db → HasRows rows db
rows_declared rows db is are sound = record {
  declared = subst HasDesk (sym is) desk_is;
  stored = all_from (λ t. AreStored t (rows t.tree) (labelled db t.tree)) desk_schema.tables
      (λ t there. subst (AreStored t (rows t.tree))
      (sym (ap (λ s. db.trees (tree_in s t.tree)) is ∙ ap db.trees (own_tree t there)))
      (all_has (λ (u : Table). AreStored u (rows u.tree) (db.trees u.tree)) desk_schema.tables t are
      there));
  sound = sound;
}
