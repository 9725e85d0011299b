mod SameSubs
mod ServiceKeys
