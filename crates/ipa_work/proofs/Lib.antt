mod CountLemmas
pub mod ShortWorkloads
