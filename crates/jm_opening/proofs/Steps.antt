-- What the statements of an opening come to.
use Rattle.std.proofs.Common.{◌≡◌, ℕ, pos, true, [], ◌∷◌, Ok, refl, ap, subst, ◌∙◌}
use Rattle.std.specs.Fmt.{digits}
use Rattle.std.specs.List.{AllByRecursion}
use Rattle.sqlite_value.specs.declared.value.Value.TheVariants.{Int}
use Rattle.sqlite_value.specs.Order.{Row, column}
use Rattle.sqlite_trees.specs.Tree.{rowid}
use Rattle.sqlite.specs.Change.{created}
use Rattle.sqlite.specs.State.{State, Shows, ExecutesInside}
use Rattle.jm_tables.specs.Made.{meta_text, station_text, message_text, held_text, delayed_text}
use Rattle.jm_tables.specs.Schema.{meta, station, message, held, delayed, no_schema, schema_1_bare, schema_1, schema, meta_tree, delayed_tree}
use Rattle.jm_tables.proofs.Made.{meta_is, station_is, message_is, held_is, delayed_is}
use Rattle.jm_opening.specs.Meta.{meta_row, meta_shown}
use Rattle.jm_opening.specs.Opened.{Grows, Sets, Leads, IsFound}
use Rattle.jm_opening.specs.declared.found.Found.TheVariants.{Blank, Bare, Indexed, Current}
use Rattle.jm_opening.proofs.Texts.{after_meta, after_station, after_message, makes_meta, meta_plain, meta_itself, makes_station, station_plain, station_itself, makes_message, message_plain, message_itself, makes_held, held_plain, held_itself, makes_delayed, delayed_plain, delayed_itself}
use Rattle.jm_opening.proofs.Effects.{creates}

station_stands : created after_meta (record station { tree = 0 }) ≡ after_station
unfolding digits
station_stands = refl

held_stands : created after_message (record held { tree = 0 }) ≡ schema_1_bare
unfolding digits
held_stands = refl

delayed_stands : created schema_1 (record delayed { tree = 0 }) ≡ schema
unfolding digits
delayed_stands = refl

pub shows_then : (a b c : State) → Shows a b b.now a.committed true → Shows b c c.now b.committed true → Shows a c c.now a.committed true
shows_then a b c p q = record { was_open = p.was_open; is_open = q.is_open; now_is = refl; committed_is = q.committed_is ∙ p.committed_is; mode = q.mode }

pub creates_meta : (old new : State) (count : ℕ) → old.now.schema ≡ no_schema → ExecutesInside 0 meta_text [] old new (Ok count) → Grows no_schema after_meta old new × (new.now.trees 0 ≡ [])
creates_meta = creates meta_text no_schema (record meta { tree = 0 }) makes_meta meta_plain meta_itself meta_is refl

pub creates_station : (old new : State) (count : ℕ) → old.now.schema ≡ after_meta → ExecutesInside 0 station_text [] old new (Ok count) → Grows after_meta after_station old new × (new.now.trees 1 ≡ [])
creates_station old new count has h =
    let it = creates station_text after_meta (record station { tree = 0 }) makes_station station_plain station_itself station_is refl old new count has h in
    (subst (λ s. Grows after_meta s old new) station_stands it.0, it.1)

pub creates_message : (old new : State) (count : ℕ) → old.now.schema ≡ after_station → ExecutesInside 0 message_text [] old new (Ok count) → Grows after_station after_message old new × (new.now.trees 3 ≡ [])
creates_message = creates message_text after_station (record message { tree = 0 }) makes_message message_plain message_itself message_is refl

pub creates_held : (old new : State) (count : ℕ) → old.now.schema ≡ after_message → ExecutesInside 0 held_text [] old new (Ok count) → Grows after_message schema_1_bare old new × (new.now.trees 4 ≡ [])
creates_held old new count has h =
    let it = creates held_text after_message (record held { tree = 0 }) makes_held held_plain held_itself held_is refl old new count has h in
    (subst (λ s. Grows after_message s old new) held_stands it.0, it.1)

pub creates_delayed : (old new : State) (count : ℕ) → old.now.schema ≡ schema_1 → ExecutesInside 0 delayed_text [] old new (Ok count) → Grows schema_1 schema old new × (new.now.trees delayed_tree ≡ [])
creates_delayed old new count has h =
    let it = creates delayed_text schema_1 (record delayed { tree = 0 }) makes_delayed delayed_plain delayed_itself delayed_is refl old new count has h in
    (subst (λ s. Grows schema_1 s old new) delayed_stands it.0, it.1)

-- four tables, one after another
pub four : (a b c d e : State) → Grows no_schema after_meta a b × (b.now.trees 0 ≡ []) → Grows after_meta after_station b c × (c.now.trees 1 ≡ []) → Grows after_station after_message c d × (d.now.trees 3 ≡ [])
    → Grows after_message schema_1_bare d e × (e.now.trees 4 ≡ []) → Grows no_schema schema_1_bare a e × AllByRecursion (λ t. e.now.trees t.tree ≡ []) schema_1_bare.tables
four a b c d e one two three last = (
  record {
    schema_is = last.0.schema_is;
    sound = last.0.sound;
    rows = tt;
    shown = shows_then a b e one.0.shown (shows_then b c e two.0.shown (shows_then c d e three.0.shown last.0.shown));
  },
  (last.0.rows.0 ∙ three.0.rows.0 ∙ two.0.rows.0 ∙ one.1, (last.0.rows.1.0 ∙ three.0.rows.1.0 ∙ two.1, (last.0.rows.1.1.0 ∙ three.1, (last.1, tt)))),
)

-- a new database
pub began : (a b c d e : State) → Grows no_schema schema_1_bare a b × AllByRecursion (λ t. b.now.trees t.tree ≡ []) schema_1_bare.tables → Grows schema_1_bare schema_1 b c
    → Grows schema_1 schema c d × (d.now.trees delayed_tree ≡ []) → Sets (meta_row 2 1) d e → Leads Blank a e
began a b c d e made index more last = record {
  opened = record {
    schema_is = last.schema_is;
    sound = last.sound;
    meta = last.meta;
    rows = (
      last.rows.0 ∙ more.0.rows.1.0 ∙ index.rows.1.0 ∙ made.1.1.0,
      (
        last.rows.1.0 ∙ more.0.rows.1.1.0 ∙ index.rows.1.1.0 ∙ made.1.1.1.0,
        (last.rows.1.1.0 ∙ more.0.rows.1.1.1.0 ∙ index.rows.1.1.1.0 ∙ made.1.1.1.1.0, (last.rows.1.1.1.0 ∙ more.1, tt)),
      ),
    );
  };
  shown = shows_then a b e made.0.shown (shows_then b c e index.shown (shows_then c d e more.0.shown last.shown));
}

-- meta is empty until then
pub still_empty : (b c d : State) → AllByRecursion (λ t. b.now.trees t.tree ≡ []) schema_1_bare.tables → Grows schema_1_bare schema_1 b c → Grows schema_1 schema c d → d.now.trees meta_tree ≡ []
still_empty b c d made index more = more.rows.0 ∙ index.rows.0 ∙ made.0

pub has_key : (row : Row) (version last : ℕ) → meta_shown row ≡ Int (pos 1) ∷ Int (pos version) ∷ Int (pos last) ∷ [] → rowid row ≡ Int (pos 1)
has_key row version last h = ap (λ r. column r 0) h

-- version 1 with the index
pub carried : (a b c : State) (opening : ℕ) → Grows schema_1 schema a b × (b.now.trees delayed_tree ≡ []) → Sets (meta_row 2 opening) b c → Leads (Indexed opening) a c
carried a b c opening more last = record {
  opened = record {
    schema_is = last.schema_is;
    sound = last.sound;
    meta = last.meta;
    rows = (last.rows.0 ∙ more.0.rows.1.0, (last.rows.1.0 ∙ more.0.rows.1.1.0, (last.rows.1.1.0 ∙ more.0.rows.1.1.1.0, (last.rows.1.1.1.0 ∙ more.1, tt))));
  };
  shown = shows_then a b c more.0.shown last.shown;
}

-- without it
pub found_indexed : (a b : State) (opening : ℕ) → IsFound (Bare opening) a.now → Grows schema_1_bare schema_1 a b → IsFound (Indexed opening) b.now
found_indexed a b opening is index = record {
  schema_is = index.schema_is;
  says = (is.says.0, is.says.1, (is.says.2.0, index.rows.0 ∙ is.says.2.1, is.says.2.2));
}

pub carried_bare : (a b c : State) (opening : ℕ) → Grows schema_1_bare schema_1 a b → Leads (Indexed opening) b c → Leads (Bare opening) a c
carried_bare a b c opening index last =
    let rows = last.opened.rows in
    record {
      opened = record {
        schema_is = last.opened.schema_is;
        sound = last.opened.sound;
        meta = last.opened.meta;
        rows = (rows.0 ∙ index.rows.1.0, (rows.1.0 ∙ index.rows.1.1.0, (rows.1.1.0 ∙ index.rows.1.1.1.0, (rows.1.1.1.0, tt))));
      };
      shown = shows_then a b c index.shown last.shown;
    }

-- version 2
pub raised : (a b : State) (opening : ℕ) → Sets (meta_row 2 opening) a b → Leads (Current opening) a b
raised a b opening last = record {
  opened = record { schema_is = last.schema_is; sound = last.sound; meta = last.meta; rows = last.rows };
  shown = last.shown;
}
